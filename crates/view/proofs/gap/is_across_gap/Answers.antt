-- With the start in the outline, the offset reaches what is left of it exactly when their sum reaches the count less 1.
use mathlib.Core.Path.{◌≡◌, sym, ◌∙◌}
use mathlib.Core.Bool.{true}
use Prim.Native.Nat.{ℕ, ◌+◌, ◌-◌, ◌<◌, ◌≤◌}
use native.Mathlib.Decide.{dec_lt}
use native.Mathlib.Omega.{arith}
use lib.Dec.{leb}
use borrow.Author.Tests.{le-leb, lt-leb}
use Rattle.view.specs.Validation.{across_gap}
use Rattle.view.proofs.gap.is_across_gap.Goals as goal

past : (start offset count : ℕ) → count ≤ start → leb (count - 1) (start + offset) ≡ true
past start offset count h = le-leb (count - 1) (start + offset) (omega arith)

reaches : (start offset count : ℕ) → start < count → leb (count - start - 1) offset ≡ leb (count - 1) (start + offset)
reaches start offset count h = go (dec_lt offset (count - start - 1))
  where
    go : Dec (offset < count - start - 1) → leb (count - start - 1) offset ≡ leb (count - 1) (start + offset)
    go (yes p) = lt-leb (count - start - 1) offset p ∙ sym (lt-leb (count - 1) (start + offset) (omega arith))
    go (no p) = le-leb (count - start - 1) offset (omega arith) ∙ sym (le-leb (count - 1) (start + offset) (omega arith))

pub returns-then-closed : goal.returns-then-closed
unfolding across_gap
returns-then-closed c = simp c.if-closed.true

pub returns-then-start-count : goal.returns-then-start-count
unfolding across_gap
returns-then-start-count c = simp c.if-closed.false (sym (past _ _ _ c.if-start-count.true))

pub returns : goal.returns
unfolding across_gap
returns c = simp c.if-closed.false (reaches _ _ _ c.if-start-count.false)
