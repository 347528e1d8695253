-- The offset's test is the definition's; else the vertex before.
use borrow.Author.Tests.{eq-eqb, ne_eqb}
use Rattle.view.specs.Create.{end_on_top_of}
use Rattle.view.proofs.create.end_on_top.Goals as goal

pub returns-then-offset-eq0 : goal.returns-then-offset-eq0
unfolding end_on_top_of
returns-then-offset-eq0 c = simp (eq-eqb _ _ c.if-offset-eq0.true)

pub returns : goal.returns
unfolding end_on_top_of
returns c = simp (ne_eqb _ _ c.if-offset-eq0.false, c.vertex_count.ensures, c.vertex_past-v.ensures)
