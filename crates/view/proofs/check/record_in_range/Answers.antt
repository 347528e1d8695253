-- The three tests are the definition's.
use Rattle.real.proofs.Pick.{picks}
use Rattle.view.specs.Record.{record_ok}
use Rattle.view.proofs.check.record_in_range.Goals as goal

pub returns-then-bulge_in_range : goal.returns-then-bulge_in_range
unfolding record_ok
returns-then-bulge_in_range c = search picks

pub returns-else-bulge_in_range : goal.returns-else-bulge_in_range
unfolding record_ok
returns-else-bulge_in_range c = search picks

pub returns-else-vertex_in_range : goal.returns-else-vertex_in_range
unfolding record_ok
returns-else-vertex_in_range c = search picks
