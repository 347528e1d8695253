-- One digit at least, and digits only.
use mathlib.Core.Path.{◌∙◌}
use native.Mathlib.Omega.{arith}
use Rattle.numeral.proofs.Values.{whole_none, whole_some}
use Rattle.numeral.proofs.digits.whole.Goals as goal

pub returns-then-is_empty : goal.returns-then-is_empty
returns-then-is_empty c = whole_none c.args.text.now (grind arith)

pub returns : goal.returns
returns c = c.digits_on.ensures ∙ whole_some c.args.text.now (grind arith)
