-- Segment k's two vertices by their promises.
use Rattle.view.proofs.outline.Outline.split_segment.Goals as goal

pub returns : goal.returns
returns c = simp (c.vertex.ensures, c.vertex_past.ensures) at c.split_at_point.ensures
