-- Each number's test by its promise.
use Rattle.real.proofs.Pick.{picks}
use Rattle.view.proofs.create.all_in_range.Goals as goal

pub returns-then-point_in_range : goal.returns-then-point_in_range
returns-then-point_in_range c = search picks

pub returns-else-point_in_range : goal.returns-else-point_in_range
returns-else-point_in_range c = search picks

pub returns-else-vertices_in_range : goal.returns-else-vertices_in_range
returns-else-vertices_in_range c = search picks
