-- The offset's test is the definition's.
use borrow.Author.Tests.{le-leb, lt-leb}
use Rattle.view.specs.Create.{ended_at_of}
use Rattle.view.proofs.create.ended_at.Goals as goal

pub returns-then-offset-source : goal.returns-then-offset-source
unfolding ended_at_of
returns-then-offset-source c = simp (lt-leb _ _ c.if-offset-source.true)

pub returns : goal.returns
unfolding ended_at_of
returns c = simp (le-leb _ _ c.if-offset-source.false, c.forward_data.ensures)
