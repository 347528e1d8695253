-- The digits that are written stand behind those that are left.
use mathlib.Core.Path.{◌≡◌}
use mathlib.Core.List.{List, ◌++◌}
use Prim.Native.Nat.{ℕ, ◌+◌, ◌≤◌}
use lib.Seq.{sets}
use Rattle.text.specs.Digits.{digits}
use Rattle.text.proofs.decimal.put_digits.Given as goal

abbrev pub Behind : List ℕ → List ℕ → ℕ → ℕ → ℕ → ℕ → ℕ → Type 0
Behind before out at count n left rest = (left ≤ count) × ((w : List ℕ) × (out ≡ sets before (at + left) w) × (digits left rest ++ w ≡ digits count n))

abbrev pub invariant-loop-left : goal.invariant-loop-left
invariant-loop-left l = Behind l.initial.out l.out l.at l.count l.n l.left l.rest

abbrev pub decreases-loop-left : goal.decreases-loop-left
decreases-loop-left l = l.left
