-- Each branch is the definition's.
use Rattle.real.proofs.Pick.{picks}
use Rattle.plane.proofs.math.min_max.Goals as goal

pub returns-then-a-b : goal.returns-then-a-b
returns-then-a-b c = search picks

pub returns-else-a-b : goal.returns-else-a-b
returns-else-a-b c = search picks
