-- The magnitude's promise, under the same comparison.
use Rattle.plane.proofs.fuzzy.fuzzy_eq_eps.Goals as goal

pub returns : goal.returns
returns c = cc
