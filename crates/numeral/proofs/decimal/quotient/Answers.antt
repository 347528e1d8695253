-- Both casts are exact, and the division rounds once.
use native.Mathlib.Nat.{le_of_lt}
use lib.Dec.{le→leb}
use lib.Ieee.{binary64, in_float}
use Rattle.numeral.proofs.Round.{div_whole}
use Rattle.numeral.proofs.decimal.quotient.Goals as goal

pub int_to_float-result : goal.int_to_float-result
unfolding in_float
int_to_float-result c = le→leb _ _ (le_of_lt c.requires.0)

pub int_to_float-result-2 : goal.int_to_float-result-2
unfolding in_float
int_to_float-result-2 c = le→leb _ _ (le_of_lt c.requires.1)

pub returns : goal.returns
returns c = div_whole binary64 c.args.n c.args.p (le_of_lt c.requires.0) (le_of_lt c.requires.1) c.requires.2
