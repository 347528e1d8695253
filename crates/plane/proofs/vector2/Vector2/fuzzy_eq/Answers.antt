-- The test with a tolerance, at the default one.
use Rattle.plane.proofs.vector2.Vector2.fuzzy_eq.Goals as goal

pub returns : goal.returns
returns c = c.fuzzy_eq_eps.ensures
