-- The vertex's point by its promise.
use Rattle.seg.proofs.closest.at_vertex.Goals as goal

pub returns : goal.returns
returns c = simp c.pos-value.ensures
