-- Each return is the definition's link whose test the code made.
use borrow.Author.Tests.{lt-ltb, le-ltb, le-leb, lt-leb}
use Rattle.view.specs.Check.{place_of}
use Rattle.view.proofs.check.check_place.Goals as goal

pub returns-then-offset-count : goal.returns-then-offset-count
unfolding place_of
returns-then-offset-count c = simp (lt-leb _ _ c.if-offset-count.true)

pub returns-then-start-count : goal.returns-then-start-count
unfolding place_of
returns-then-start-count c = simp (le-leb _ _ c.if-offset-count.false, le-ltb _ _ c.if-start-count.true)

pub returns : goal.returns
unfolding place_of
returns c = simp (le-leb _ _ c.if-offset-count.false, lt-ltb _ _ c.if-start-count.false)
