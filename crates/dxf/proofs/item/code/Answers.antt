-- Four digits at most, and then a whole number.
use mathlib.Core.Path.{◌∙◌}
use Rattle.dxf.proofs.Items.{code_long, code_short}
use Rattle.dxf.proofs.item.code.Goals as goal

pub returns-then-text-gt-CODE_DIGITS : goal.returns-then-text-gt-CODE_DIGITS
returns-then-text-gt-CODE_DIGITS c = code_long c.args.text.now c.if-text-gt-CODE_DIGITS.true

pub returns : goal.returns
returns c = c.whole.ensures ∙ code_short c.args.text.now c.if-text-gt-CODE_DIGITS.false
