-- The direction's own lookup.
use Rattle.lists.specs.View.{vertex_at_of}
use Rattle.view.proofs.placed.PlacedView.vertex.Goals as goal

pub returns-then-self : goal.returns-then-self
unfolding vertex_at_of
returns-then-self c = simp (c.backward.ensures, c.if-self.true)

pub returns-else-self : goal.returns-else-self
unfolding vertex_at_of
returns-else-self c = simp (c.forward.ensures, c.if-self.false)
