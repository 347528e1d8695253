-- What the calls take: a segment, a vertex, a record and a flag, as a caller lends them.
use Rattle.std.specs.Prelude.{Bool, not, List, ℕ, eqb, length, get_or, Float}
use Rattle.std.specs.Float.{nan}
use Rattle.real.specs.Refusal.{bad_outline}
use Rattle.real.specs.Reply.{Reply, check, and_then}
use Rattle.plane.specs.Vertex.{vertex_at_of}
use Rattle.plane.specs.declared.vector2.Vector2.{Vector2}
use Rattle.plane.specs.declared.pline_vertex.PlineVertex.{PlineVertex}
use Rattle.view.specs.declared.view_data.PlineViewData.{PlineViewData}
use Rattle.record.specs.Record.{record_from}
use Rattle.lent.specs.Segment.{segment_from}

-- a call on the segment of a slice
abbrev pub of_segment : {A : Type 0} → List Float → (PlineVertex → PlineVertex → Reply A) → Reply A
of_segment s f = and_then (segment_from s) (λ ends. f ends.0 ends.1)

-- a call on the record of a slice; 11 and 12 come first
abbrev pub of_record : {A : Type 0} → List ℕ → (PlineViewData → Reply A) → Reply A
of_record b f = and_then (record_from b) f

-- a call on the vertex of a slice, which refuses 3 itself before all else
unfoldable pub of_vertex : {A : Type 0} → List Float → (PlineVertex → Reply A) → Reply A
of_vertex s f = check (eqb (length s) 3) bad_outline (f (vertex_at_of (get_or s 0 nan) (get_or s 1 nan) (get_or s 2 nan)))

abbrev pub point : Float → Float → Vector2
point x y = record { x = x; y = y }

-- "`closed` other than 0 counts as closed"
abbrev pub is_closed : ℕ → Bool
is_closed n = not (eqb n 0)
