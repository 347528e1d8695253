-- The test of the offset is the definition's.
use borrow.Author.Tests.{eq-eqb, ne_eqb}
use Rattle.view.specs.Validation.{bulges_match_of}
use Rattle.view.proofs.validate.bulges_match.Goals as goal

pub returns-then-offset-eq0 : goal.returns-then-offset-eq0
unfolding bulges_match_of
returns-then-offset-eq0 c = simp (eq-eqb _ _ c.if-offset-eq0.true) c.fuzzy_eq_eps.ensures

pub returns : goal.returns
unfolding bulges_match_of
returns c = simp (ne_eqb _ _ c.if-offset-eq0.false)
