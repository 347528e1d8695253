-- `root_of` is the root, and it is finite exactly where the number is rootable.
use mathlib.Core.Path.{refl, sym, subst, ◌∙◌}
use lib.Dec.{T}
use lib.Ieee.{Float, binary64, div, of_bits}
use Rattle.real.specs.Root.{IsRoot}
use Rattle.real.specs.Sqrt.{IsSqrt}
use Rattle.real.proofs.Nearest.{root_is_nearest}
use Rattle.real.proofs.Finite.{finite_root}
use Rattle.real.proofs.square_root.sqrt.Goals as goal
use Rattle.real.proofs.square_root.sqrt.Goals.{After-root-r}

rooted : (c : After-root-r) → IsRoot binary64 c.args.x c.root-r.result
rooted c =
    let x = c.args.x in
    subst (λ (r : Float). IsRoot binary64 x r) (sym c.root-r.ensures) (root_is_nearest binary64 x (subst T (sym c.well_formed.0.1) tt))

pub returns-then-r : goal.returns-then-r
unfolding IsSqrt div of_bits
returns-then-r c =
    (sym (finite_root binary64 c.args.x c.root-r.result (rooted c.before)) ∙ c.if-r.true, rooted c.before)

pub returns : goal.returns
unfolding IsSqrt div of_bits
returns c =
    (sym (finite_root binary64 c.args.x c.root-r.result (rooted c.before)) ∙ c.if-r.false, refl)
