-- The two tests are the definition's.
use borrow.Author.Tests.{eq-eqb, ne_eqb}
use Rattle.plane.specs.Range.{whole_outline}
use Rattle.plane.proofs.range.outline_is_whole.Goals as goal

pub returns-then-n-eq0 : goal.returns-then-n-eq0
unfolding whole_outline
returns-then-n-eq0 c = simp (eq-eqb _ _ c.if-n-eq0.true)

pub returns-else-n-eq0 : goal.returns-else-n-eq0
unfolding whole_outline
returns-else-n-eq0 c = simp (ne_eqb _ _ c.if-n-eq0.false)
