-- The guards are the definition's tests, in its order.
use Rattle.real.proofs.Pick.{picks}
use Rattle.seg.specs.Bounds.{seg_box}
use Rattle.seg.proofs.bounds.seg_bounding_box.Goals as goal

pub returns-then-not-seg_in_range : goal.returns-then-not-seg_in_range
unfolding seg_box
returns-then-not-seg_in_range c = search picks

pub returns-then-not-limit_in_range : goal.returns-then-not-limit_in_range
unfolding seg_box
returns-then-not-limit_in_range c = search picks

pub returns : goal.returns
unfolding seg_box
returns c = search picks
