-- The guards are the definition's tests, in its order.
use Rattle.real.proofs.Pick.{picks}
use Rattle.seg.specs.Arc.{seg_circle}
use Rattle.seg.proofs.arc.seg_arc_radius_and_center.Goals as goal

pub returns-then-not-seg_in_range : goal.returns-then-not-seg_in_range
unfolding seg_circle
returns-then-not-seg_in_range c = search picks

pub returns-then-not-limit_in_range : goal.returns-then-not-limit_in_range
unfolding seg_circle
returns-then-not-limit_in_range c = search picks

pub returns-then-bulge_is_zero : goal.returns-then-bulge_is_zero
unfolding seg_circle
returns-then-bulge_is_zero c = search picks

pub returns-then-ends_meet : goal.returns-then-ends_meet
unfolding seg_circle
returns-then-ends_meet c = search picks

pub returns : goal.returns
unfolding seg_circle
returns c = search picks depth 8 fits 20000
