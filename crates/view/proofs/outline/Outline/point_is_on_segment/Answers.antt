-- Segment k's two vertices by their promises.
use Rattle.view.specs.Segment.{on_outline_by}
use Rattle.view.proofs.outline.Outline.point_is_on_segment.Goals as goal

pub returns : goal.returns
unfolding on_outline_by
returns c = simp (c.vertex.ensures, c.vertex_past.ensures) at c.is_on_segment.ensures
