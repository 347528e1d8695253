-- The guards are the definition's tests, in its order.
use Rattle.real.proofs.Pick.{picks}
use Rattle.seg.specs.Split.{seg_split}
use Rattle.seg.proofs.split.seg_split_at_point.Goals as goal

pub returns-then-not-seg_in_range : goal.returns-then-not-seg_in_range
unfolding seg_split
returns-then-not-seg_in_range c = search picks depth 8

pub returns-then-not-point_in_range : goal.returns-then-not-point_in_range
unfolding seg_split
returns-then-not-point_in_range c = search picks depth 8

pub returns-then-not-tol_and_limit_in_range : goal.returns-then-not-tol_and_limit_in_range
unfolding seg_split
returns-then-not-tol_and_limit_in_range c = search picks depth 8

pub returns : goal.returns
unfolding seg_split
returns c = search picks depth 8
