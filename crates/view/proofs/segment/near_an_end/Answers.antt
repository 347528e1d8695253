-- Both ends by the fuzzy test's promise.
use Rattle.real.proofs.Pick.{either, or_else}
use Rattle.view.proofs.segment.near_an_end.Goals as goal

pub returns-then-fuzzy_eq_eps : goal.returns-then-fuzzy_eq_eps
returns-then-fuzzy_eq_eps c = either _ (simp c.pos.ensures at c.fuzzy_eq_eps.ensures) c.if-fuzzy_eq_eps.true

pub returns-else-fuzzy_eq_eps : goal.returns-else-fuzzy_eq_eps
returns-else-fuzzy_eq_eps c =
    or_else (simp c.pos.ensures at c.fuzzy_eq_eps.ensures) c.if-fuzzy_eq_eps.false (simp c.pos-else-fuzzy_eq_eps.ensures at c.fuzzy_eq_eps-else-fuzzy_eq_eps.ensures)
