-- Both vertices by their test's promise.
use Rattle.real.proofs.Pick.{picks}
use Rattle.plane.specs.Range.{seg_ok}
use Rattle.plane.proofs.range.seg_in_range.Goals as goal

pub returns-then-vertex_in_range : goal.returns-then-vertex_in_range
unfolding seg_ok
returns-then-vertex_in_range c = search picks

pub returns-else-vertex_in_range : goal.returns-else-vertex_in_range
unfolding seg_ok
returns-else-vertex_in_range c = search picks
