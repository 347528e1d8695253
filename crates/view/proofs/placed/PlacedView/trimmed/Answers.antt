-- The part that the direction asks for.
use Rattle.lists.specs.View.{trim_view}
use Rattle.view.proofs.placed.PlacedView.trimmed.Goals as goal

pub returns-then-self : goal.returns-then-self
unfolding trim_view
returns-then-self c = simp (c.part.ensures, c.if-self.true)

pub returns : goal.returns
unfolding trim_view
returns c = simp (c.part-2.ensures, c.if-self.false)
