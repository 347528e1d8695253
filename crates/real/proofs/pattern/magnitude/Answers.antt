-- `of_bits` of a pattern with the sign's bit cleared is the magnitude; a NaN has none but itself.
use mathlib.Core.Path.{sym, subst}
use lib.Dec.{T}
use lib.Ieee.{binary64, fits}
use Rattle.real.proofs.Values.{no_nan, abs_nan, abs_pattern, abs_no_nan}
use Rattle.real.proofs.pattern.magnitude.Goals as goal
use Rattle.real.proofs.pattern.magnitude.Goals.{Start}

-- what owning an `f64` tells: the format holds it
held : (c : Start) → T (fits binary64 c.args.x)
held c = subst T (sym c.well_formed.0.1) tt

pub float_to_bits-result : goal.float_to_bits-result
float_to_bits-result c = no_nan c.args.x c.if-x.false

pub float_from_bits-result : goal.float_from_bits-result
float_from_bits-result c = abs_no_nan binary64 c.args.x (held c.before) (no_nan c.args.x c.if-x.false)

pub returns-then-x : goal.returns-then-x
returns-then-x c = abs_nan c.args.x c.if-x.true

pub returns-else-x : goal.returns-else-x
returns-else-x c = abs_pattern binary64 c.args.x (held c.before)
