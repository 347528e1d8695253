-- After some turns the rest of the items, read on from what is seen, gives the whole.
use lib.ListN.{length}
use Rattle.dxf.proofs.Turns.{Going}
use Rattle.dxf.proofs.entity.body.Given as goal

abbrev pub invariant-loop-entry : goal.invariant-loop-entry
invariant-loop-entry l = Going l.text l.rest l.state l.out

abbrev pub decreases-loop-entry : goal.decreases-loop-entry
decreases-loop-entry l = length l.rest
