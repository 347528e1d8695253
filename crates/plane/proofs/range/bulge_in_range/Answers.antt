-- Two comparisons are the definition's one of the magnitude.
use Rattle.real.proofs.Pick.{picks}
use Rattle.real.proofs.Within.{lies_within}
use Rattle.plane.specs.Range.{bulge_ok}
use Rattle.plane.proofs.range.bulge_in_range.Goals as goal

pub returns-then-b : goal.returns-then-b
unfolding bulge_ok
returns-then-b c = lies_within _ _ (search picks)

pub returns-else-b : goal.returns-else-b
unfolding bulge_ok
returns-else-b c = lies_within _ _ (search picks)
