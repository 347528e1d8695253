-- The fuzzy test's promise, at zero and the limit.
use Rattle.plane.proofs.pline_vertex.PlineVertex.bulge_is_zero.Goals as goal

pub returns : goal.returns
returns c = c.fuzzy_eq_eps.ensures
