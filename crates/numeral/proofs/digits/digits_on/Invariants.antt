-- After b-index turns n is what is kept of the digits' number so far, so that the rest, written on after n, gives the whole.
use Rattle.numeral.proofs.Values.{Reading}
use Rattle.numeral.proofs.digits.digits_on.Given as goal

abbrev pub invariant-loop-b : goal.invariant-loop-b
invariant-loop-b l = Reading l.text l.v l.n l.b-index
