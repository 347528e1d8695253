-- Coordinates and bulge by the fuzzy test's promise.
use Rattle.real.proofs.Pick.{picks}
use Rattle.plane.proofs.pline_vertex.PlineVertex.fuzzy_eq_eps.Goals as goal

pub returns-then-fuzzy_eq_eps-2 : goal.returns-then-fuzzy_eq_eps-2
returns-then-fuzzy_eq_eps-2 c = search picks

pub returns-else-fuzzy_eq_eps-2 : goal.returns-else-fuzzy_eq_eps-2
returns-else-fuzzy_eq_eps-2 c = search picks

pub returns-else-fuzzy_eq_eps : goal.returns-else-fuzzy_eq_eps
returns-else-fuzzy_eq_eps c = search picks
