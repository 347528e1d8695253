-- The loop's invariant: the first k vertices stand in the buffer, and then what it held.
use mathlib.Core.Path.{◌≡◌}
use mathlib.Core.List.{List, ◌++◌}
use Prim.Native.Nat.{ℕ, ◌*◌}
use lib.ListN.{length, drop}
use lib.Ieee.{Float, neg}
use Rattle.plane.specs.Grade.{double}
use Rattle.lists.specs.Plain.{Vert, tab, flat}
use Rattle.lists.specs.View.{vertex_at_of}
use Rattle.view.specs.Outline.{count_of, src_of}
use Rattle.view.specs.Record.{view_of}
use Rattle.view.specs.declared.view_data.PlineViewData.{PlineViewData}
use Rattle.view.proofs.placed.PlacedView.write_list.Given as goal

-- the view's vertices, and the buffer that held `out` after k of them
abbrev pub vertex : List Float → PlineViewData → ℕ → Vert Float
vertex s d = vertex_at_of neg double.zero (src_of s) (count_of s) (view_of d)

abbrev pub after : List Float → PlineViewData → List Float → ℕ → List Float
after s d out k = flat (tab (vertex s d) k) ++ drop (3 * k) out

abbrev pub invariant-loop-k : goal.invariant-loop-k
invariant-loop-k l = (length l.out ≡ length l.initial.out) × (l.out ≡ after l.self.outline.numbers.now l.self.view l.initial.out l.k)
