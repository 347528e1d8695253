-- The tests are the definition's, in its order.
use Rattle.real.proofs.Pick.{picks}
use Rattle.view.specs.Validation.{end_verdict}
use Rattle.view.proofs.validate.judge_end.Goals as goal

pub returns-then-fuzzy_eq_eps : goal.returns-then-fuzzy_eq_eps
unfolding end_verdict
returns-then-fuzzy_eq_eps c = let near = simp c.pos.ensures at c.fuzzy_eq_eps.ensures in search picks

pub returns-then-not-bulges_match : goal.returns-then-not-bulges_match
unfolding end_verdict
returns-then-not-bulges_match c = let near = simp c.pos.ensures at c.fuzzy_eq_eps.ensures in search picks

pub returns : goal.returns
unfolding end_verdict
returns c = let near = simp c.pos.ensures at c.fuzzy_eq_eps.ensures in search picks

pub returns-then-not-on : goal.returns-then-not-on
unfolding end_verdict
returns-then-not-on c = search picks
