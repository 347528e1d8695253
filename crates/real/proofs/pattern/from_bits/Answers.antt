-- A pattern above an infinity's, the sign aside, is a NaN's; of any other `f64::from_bits` is `of_bits`.
use mathlib.Core.Path.{sym, ◌∙◌}
use lib.Ieee.{binary64}
use Rattle.real.proofs.Values.{no_nan_bits, of_nan_bits, zero_by_zero}
use borrow.Author.Rules.{rules}
use Rattle.real.proofs.pattern.from_bits.Goals as goal

pub float_from_bits-result : goal.float_from_bits-result
float_from_bits-result c = no_nan_bits binary64 c.args.b c.if-b-gt-INFINITY.false

pub returns-then-b-gt-INFINITY : goal.returns-then-b-gt-INFINITY
returns-then-b-gt-INFINITY c = zero_by_zero binary64 ∙ sym (of_nan_bits binary64 c.args.b c.if-b-gt-INFINITY.true)

pub returns-else-b-gt-INFINITY : goal.returns-else-b-gt-INFINITY
returns-else-b-gt-INFINITY c = search rules
