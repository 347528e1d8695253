-- An offset other than 0 passes; else the two patterns are compared.
use borrow.Author.Tests.{eq-eqb, ne_eqb}
use Rattle.view.specs.Record.{even_bits}
use Rattle.view.proofs.check.has_even_bulges.Goals as goal

pub returns-then-offset-ne0 : goal.returns-then-offset-ne0
unfolding even_bits
returns-then-offset-ne0 c = simp (ne_eqb _ _ c.if-offset-ne0.true)

pub returns : goal.returns
unfolding even_bits
returns c = simp (eq-eqb _ _ c.if-offset-ne0.false, c.bits.ensures, c.bits-2.ensures)
