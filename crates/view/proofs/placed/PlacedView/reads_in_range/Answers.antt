-- Each return is the definition's case that the tests before it show.
use borrow.Author.Tests.{eq-eqb, ne_eqb, lt-ltb, le-ltb, not-true, not-false}
use Rattle.view.specs.Record.{reads_ok}
use Rattle.view.proofs.placed.PlacedView.reads_in_range.Goals as goal

pub returns-then-k-eq0 : goal.returns-then-k-eq0
unfolding reads_ok
returns-then-k-eq0 c = simp (eq-eqb _ _ c.if-k-eq0.true)

pub returns-then-offset-k : goal.returns-then-offset-k
unfolding reads_ok
returns-then-offset-k c = simp (ne_eqb _ _ c.if-k-eq0.false, lt-ltb _ _ c.if-offset-k.true)

pub returns-then-not-d : goal.returns-then-not-d
unfolding reads_ok
returns-then-not-d c =
    simp (ne_eqb _ _ c.if-k-eq0.false, le-ltb _ _ c.if-offset-k.false, not-true c.args.self.view.inverted_direction c.if-not-d.true) c.past_in_range.ensures

pub returns : goal.returns
unfolding reads_ok
returns c =
    simp (ne_eqb _ _ c.if-k-eq0.false, le-ltb _ _ c.if-offset-k.false, not-false c.args.self.view.inverted_direction c.if-not-d.false) c.turned_in_range.ensures
