-- The two comparisons are the definition's.
use Rattle.real.proofs.Pick.{picks}
use Rattle.seg.proofs.bounds.rising.Goals as goal

pub returns-then-a : goal.returns-then-a
returns-then-a c = search picks

pub returns-else-a : goal.returns-else-a
returns-else-a c = search picks
