-- Coordinates and bulge by their tests' promises.
use Rattle.real.proofs.Pick.{picks}
use Rattle.plane.specs.Range.{vertex_ok}
use Rattle.plane.proofs.range.vertex_in_range.Goals as goal

pub returns-then-coord_in_range-2 : goal.returns-then-coord_in_range-2
unfolding vertex_ok
returns-then-coord_in_range-2 c = search picks

pub returns-else-coord_in_range-2 : goal.returns-else-coord_in_range-2
unfolding vertex_ok
returns-else-coord_in_range-2 c = search picks

pub returns-else-coord_in_range : goal.returns-else-coord_in_range
unfolding vertex_ok
returns-else-coord_in_range c = search picks
