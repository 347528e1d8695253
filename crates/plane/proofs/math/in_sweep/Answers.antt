-- Each branch's comparisons are the definition's.
use Rattle.real.proofs.Pick.{picks}
use Rattle.plane.proofs.math.in_sweep.Goals as goal

pub returns-then-a-eps : goal.returns-then-a-eps
returns-then-a-eps c = search picks

pub returns-else-a-eps : goal.returns-else-a-eps
returns-else-a-eps c = search picks

pub returns-then-a-eps-2 : goal.returns-then-a-eps-2
returns-then-a-eps-2 c = search picks

pub returns-else-a-eps-2 : goal.returns-else-a-eps-2
returns-else-a-eps-2 c = search picks
