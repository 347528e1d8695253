-- After some turns the numbers passed stand in the buffer.
use Rattle.outline_sheet.proofs.Written.{Writing}
use Rattle.outline_sheet.proofs.numbers.put_numbers.Given as goal

abbrev pub invariant-loop-x : goal.invariant-loop-x
invariant-loop-x l = Writing l.numbers l.initial.out l.at l.x-index l.e l.out
