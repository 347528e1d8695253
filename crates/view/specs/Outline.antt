-- An outline: vertices "lent as f64 in threes x, y, bulge".
use Rattle.std.specs.Prelude.{ℕ, zero, suc, ◌+◌, ◌*◌, ◌/◌, Bool, true, ◌&&◌, List, length, get_or, leb, Float}
use Rattle.std.specs.Float.{nan}
use Rattle.plane.specs.Grade.{Grade}
use Rattle.plane.specs.Range.{whole_outline, vertex_ok}
use Rattle.plane.specs.Vertex.{vertex_at_of}
use Rattle.plane.specs.declared.pline_vertex.PlineVertex.{PlineVertex}
use Rattle.lists.specs.Plain.{Vert}
use Rattle.lists.specs.View.{wrapped}

-- vertex k of an outline, and how many it has
abbrev pub vertex_value : List Float → ℕ → PlineVertex
vertex_value s k = vertex_at_of (get_or s (3 * k) nan) (get_or s (3 * k + 1) nan) (get_or s (3 * k + 2) nan)

abbrev pub count_of : List Float → ℕ
count_of s = length s / 3

-- the vertex `steps` places past vertex k, wrapping
abbrev pub vertex_past_of : List Float → ℕ → ℕ → PlineVertex
vertex_past_of s k steps = vertex_value s (wrapped k steps (count_of s))

-- the vertex struct as a plain vertex, and back
abbrev pub vert_of : PlineVertex → Vert Float
vert_of v = record { x = v.x; y = v.y; bulge = v.bulge }

abbrev pub of_vert : Vert Float → PlineVertex
of_vert v = vertex_at_of v.x v.y v.bulge

abbrev pub src_of : List Float → ℕ → Vert Float
src_of s k = vert_of (vertex_value s k)

-- what refusal 3 asks of a view's outline: whole vertices, not too many, and not "under two vertices"
unfoldable pub viewable : List Float → Bool
viewable s = whole_outline (length s) && leb 2 (count_of s)

-- f holds of each number below n
unfoldable pub all : (ℕ → Bool) → ℕ → Bool
all f zero = true
all f (suc n) = all f n && f n

-- every vertex is in range
unfoldable pub numbers_ok : Grade → List Float → Bool
numbers_ok g s = all (λ k. vertex_ok g (vertex_value s k)) (count_of s)
