-- A segment as 6 numbers.
use Rattle.std.specs.Prelude.{List, eqb, length, get_or, Float}
use Rattle.std.specs.Float.{nan}
use Rattle.real.specs.Refusal.{bad_outline}
use Rattle.real.specs.Reply.{Reply, given, check}
use Rattle.plane.specs.Vertex.{vertex_at_of}
use Rattle.plane.specs.declared.pline_vertex.PlineVertex.{PlineVertex}

-- its two vertices; 3 for other than 6 numbers
unfoldable pub segment_from : List Float → Reply (PlineVertex × PlineVertex)
segment_from s =
    check (eqb (length s) 6) bad_outline
    (given (vertex_at_of (get_or s 0 nan) (get_or s 1 nan) (get_or s 2 nan), vertex_at_of (get_or s 3 nan) (get_or s 4 nan) (get_or s 5 nan)))
