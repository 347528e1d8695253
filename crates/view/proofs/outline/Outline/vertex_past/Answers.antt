-- The vertex at the wrapped number, by the two promises.
use Rattle.view.proofs.outline.Outline.vertex_past.Goals as goal

pub returns : goal.returns
returns c = simp c.fwd_wrapping_index.ensures.is at c.vertex.ensures
