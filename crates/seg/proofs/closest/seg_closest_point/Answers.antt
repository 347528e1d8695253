-- The guards are the definition's tests, in its order.
use Rattle.real.proofs.Pick.{picks}
use Rattle.seg.specs.Closest.{seg_closest}
use Rattle.seg.proofs.closest.seg_closest_point.Goals as goal

pub returns-then-not-seg_in_range : goal.returns-then-not-seg_in_range
unfolding seg_closest
returns-then-not-seg_in_range c = search picks depth 8

pub returns-then-not-point_in_range : goal.returns-then-not-point_in_range
unfolding seg_closest
returns-then-not-point_in_range c = search picks depth 8

pub returns-then-not-tol_and_limit_in_range : goal.returns-then-not-tol_and_limit_in_range
unfolding seg_closest
returns-then-not-tol_and_limit_in_range c = search picks depth 8

pub returns : goal.returns
unfolding seg_closest
returns c = search picks depth 8
