-- The two comparisons are the definition's.
use Rattle.real.proofs.Pick.{picks}
use Rattle.plane.specs.Range.{limit_ok}
use Rattle.plane.proofs.range.limit_in_range.Goals as goal

pub returns-then-limit : goal.returns-then-limit
unfolding limit_ok
returns-then-limit c = search picks

pub returns-else-limit : goal.returns-else-limit
unfolding limit_ok
returns-else-limit c = search picks
