-- A NaN differs from itself, and `to_bits` has one pattern for it; of any other x `f64::to_bits` is `to_bits`.
use lib.Ieee.{binary64}
use Rattle.real.proofs.Values.{no_nan, pattern_of_nan}
use borrow.Author.Rules.{rules}
use Rattle.real.proofs.pattern.bits.Goals as goal

pub float_to_bits-result : goal.float_to_bits-result
float_to_bits-result c = no_nan c.args.x c.if-x.false

pub returns-then-x : goal.returns-then-x
returns-then-x c = pattern_of_nan binary64 c.args.x c.if-x.true

pub returns : goal.returns
returns c = search rules
