-- Below the cap the number itself, and from there on its parity, which is the last digit's.
use mathlib.Core.Path.{refl}
use Rattle.numeral.proofs.Values.{written_small, written_large}
use Rattle.numeral.proofs.digits.written_on.Goals as goal

pub returns-then-v : goal.returns-then-v
returns-then-v c = written_small c.args.v c.args.d _ c.if-v.true c.requires.1 refl

pub returns-else-v : goal.returns-else-v
returns-else-v c = written_large c.args.v c.args.d _ c.if-v.false refl
