-- The guards are the definition's tests, in its order; the answer has the distance's magnitude by its promise.
use Rattle.real.proofs.Pick.{picks, good, given_is}
use Rattle.seg.specs.Distance.{seg_far}
use Rattle.seg.proofs.distance.seg_distance_is_greater_than.Goals as goal

pub returns : goal.returns
unfolding seg_far
returns c =
    good _ c.seg_in_range.ensures c.if-not-seg_in_range.false
    (good _ c.point_in_range.ensures c.if-not-point_in_range.false
    (good _ c.coord_in_range.ensures c.if-not-coord_in_range.false
    (good _ c.tol_and_limit_in_range.ensures c.if-not-tol_and_limit_in_range.false
    (given_is (rw c.magnitude.ensures at c.far.ensures)))))

pub returns-then-not-seg_in_range : goal.returns-then-not-seg_in_range
unfolding seg_far
returns-then-not-seg_in_range c = search picks depth 12 fits 5000

pub returns-then-not-point_in_range : goal.returns-then-not-point_in_range
unfolding seg_far
returns-then-not-point_in_range c = search picks depth 12 fits 5000

pub returns-then-not-coord_in_range : goal.returns-then-not-coord_in_range
unfolding seg_far
returns-then-not-coord_in_range c = search picks depth 12 fits 5000

pub returns-then-not-tol_and_limit_in_range : goal.returns-then-not-tol_and_limit_in_range
unfolding seg_far
returns-then-not-tol_and_limit_in_range c = search picks depth 12 fits 5000
