-- Both coordinates by their test's promise.
use Rattle.real.proofs.Pick.{picks}
use Rattle.plane.specs.Range.{point_ok}
use Rattle.plane.proofs.range.point_in_range.Goals as goal

pub returns-then-coord_in_range : goal.returns-then-coord_in_range
unfolding point_ok
returns-then-coord_in_range c = search picks

pub returns-else-coord_in_range : goal.returns-else-coord_in_range
unfolding point_ok
returns-else-coord_in_range c = search picks
