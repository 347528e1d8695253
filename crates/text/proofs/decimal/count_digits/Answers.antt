-- A number of up to four digits lies between two powers of ten, or below ten; of a longer one the logarithm says so.
use Rattle.std.proofs.Common.{arith, ap, length}
use Rattle.std.proofs.lemmas.Bool.Decides.{nat_tests}
use Rattle.text.proofs.Digits.{one_digit, decimal_count}
use Rattle.text.proofs.decimal.count_digits.Goals as goal

pub returns-in-0-to-9 : goal.returns-in-0-to-9
returns-in-0-to-9 c = ap length (one_digit c.args.n (grind (arith, nat_tests)))

pub returns-in-0-to-99 : goal.returns-in-0-to-99
returns-in-0-to-99 c = decimal_count 1 c.args.n (omega arith) (grind (arith, nat_tests)) (grind (arith, nat_tests))

pub returns-in-0-to-999 : goal.returns-in-0-to-999
returns-in-0-to-999 c = decimal_count 2 c.args.n (omega arith) (grind (arith, nat_tests)) (grind (arith, nat_tests))

pub returns-in-0-to-9999 : goal.returns-in-0-to-9999
returns-in-0-to-9999 c = decimal_count 3 c.args.n (omega arith) (grind (arith, nat_tests)) (grind (arith, nat_tests))

pub returns-in_default : goal.returns-in_default
returns-in_default c = let e = c.ilog10.ensures in decimal_count c.ilog10.result c.args.n e.bound e.power_le e.next_power_gt
