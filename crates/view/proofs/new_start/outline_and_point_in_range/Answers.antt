-- Each number's test by its promise.
use Rattle.real.proofs.Pick.{picks}
use Rattle.view.proofs.new_start.outline_and_point_in_range.Goals as goal

pub returns-then-vertices_in_range : goal.returns-then-vertices_in_range
returns-then-vertices_in_range c = search picks

pub returns-else-vertices_in_range : goal.returns-else-vertices_in_range
returns-else-vertices_in_range c = search picks
