-- Two comparisons are the definition's one of the magnitude.
use Rattle.real.proofs.Pick.{picks}
use Rattle.real.proofs.Within.{lies_within}
use Rattle.plane.specs.Range.{coord_ok}
use Rattle.plane.proofs.range.coord_in_range.Goals as goal

pub returns-then-x : goal.returns-then-x
unfolding coord_ok
returns-then-x c = lies_within _ _ (search picks)

pub returns-else-x : goal.returns-else-x
unfolding coord_ok
returns-else-x c = lies_within _ _ (search picks)
