-- The tests of the counts are the definition's, in its order.
use mathlib.Core.Path.{ap}
use borrow.Author.Tests.{lt-ltb, le-ltb}
use Rattle.real.specs.Reply.{given}
use Rattle.view.specs.Validation.{counts_by}
use Rattle.view.proofs.validate.judge_counts.Goals as goal

pub returns-then-count-lt2 : goal.returns-then-count-lt2
unfolding counts_by
returns-then-count-lt2 c = simp (lt-ltb _ _ c.if-count-lt2.true)

pub returns-then-count-offset : goal.returns-then-count-offset
unfolding counts_by
returns-then-count-offset c = simp (le-ltb _ _ c.if-count-lt2.false, lt-ltb _ _ c.if-count-offset.true)

pub returns-then-start-count : goal.returns-then-start-count
unfolding counts_by
returns-then-start-count c = simp (le-ltb _ _ c.if-count-lt2.false, le-ltb _ _ c.if-count-offset.false, le-ltb _ _ c.if-start-count.true)

pub invariant_of-judge : goal.invariant_of-judge
invariant_of-judge c = record { placed = record { few = c.requires; two = c.if-count-lt2.false; start = c.if-start-count.false; offset = c.if-count-offset.false } }

pub returns : goal.returns
unfolding counts_by
returns c =
    simp (le-ltb _ _ c.if-count-lt2.false, le-ltb _ _ c.if-count-offset.false, lt-ltb _ _ c.if-start-count.false) (ap given c.judge.ensures)
