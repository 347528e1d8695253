-- Both ends by the promise of `end_far`.
use Rattle.real.proofs.Pick.{picks}
use Rattle.seg.proofs.distance.ends_far.Goals as goal

pub returns-then-end_far : goal.returns-then-end_far
returns-then-end_far c = search picks

pub returns-else-end_far : goal.returns-else-end_far
returns-else-end_far c = search picks
