-- Both coordinates by the fuzzy test's promise.
use Rattle.real.proofs.Pick.{picks}
use Rattle.plane.proofs.vector2.Vector2.fuzzy_eq_eps.Goals as goal

pub returns-then-fuzzy_eq_eps : goal.returns-then-fuzzy_eq_eps
returns-then-fuzzy_eq_eps c = search picks

pub returns-else-fuzzy_eq_eps : goal.returns-else-fuzzy_eq_eps
returns-else-fuzzy_eq_eps c = search picks
