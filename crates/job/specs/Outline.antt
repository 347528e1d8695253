-- The outline in a sheet's bytes: "Then V times three f64".
use Rattle.std.specs.Prelude.{ℕ, ◌+◌, ◌*◌, List, Float}
use Rattle.plane.specs.declared.pline_vertex.PlineVertex.{PlineVertex}
use Rattle.lists.specs.Plain.{tab}
use Rattle.record.specs.Bytes.{float_at, vertex_from}
use Rattle.job.specs.Header.{header_size, vertex_size}

-- vertex k, and the first n numbers
abbrev pub vertex_in_of : List ℕ → ℕ → PlineVertex
vertex_in_of b k = vertex_from b (header_size + vertex_size * k)

unfoldable pub numbers_in : List ℕ → ℕ → List Float
numbers_in b n = tab (λ i. float_at b (header_size + 8 * i)) n
