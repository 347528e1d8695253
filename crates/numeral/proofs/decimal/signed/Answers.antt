-- The sign is turned, or not.
use mathlib.Core.Path.{sym, ap}
use mathlib.Core.Bool.{Bool, cond}
use lib.Ieee.{neg}
use Rattle.numeral.proofs.decimal.signed.Goals as goal

pub returns-then-minus : goal.returns-then-minus
returns-then-minus c = sym (ap (λ (b : Bool). cond b (neg c.args.x) c.args.x) c.if-minus.true)
