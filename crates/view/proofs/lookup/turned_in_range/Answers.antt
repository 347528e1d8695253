-- The tests are the definition's, in its order.
use borrow.Author.Tests.{eq-eqb, ne_eqb}
use Rattle.real.proofs.Pick.{both, not_first}
use Rattle.view.specs.Record.{turned_ok}
use Rattle.view.proofs.lookup.turned_in_range.Goals as goal

pub returns-then-k-offset : goal.returns-then-k-offset
unfolding turned_ok
returns-then-k-offset c = both c.past_in_range.ensures c.if-past_in_range.true (simp (eq-eqb _ _ c.if-k-offset.true))

pub returns-else-k-offset : goal.returns-else-k-offset
unfolding turned_ok
returns-else-k-offset c =
    both c.past_in_range.ensures c.if-past_in_range.true (simp (ne_eqb _ _ c.if-k-offset.false) c.past_in_range-else-k-offset.ensures)

pub returns-else-past_in_range : goal.returns-else-past_in_range
unfolding turned_ok
returns-else-past_in_range c = not_first _ c.past_in_range.ensures c.if-past_in_range.false
