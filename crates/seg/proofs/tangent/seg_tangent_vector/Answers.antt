-- The guards are the definition's tests, in its order.
use Rattle.real.proofs.Pick.{picks}
use Rattle.seg.specs.Tangent.{seg_tangent}
use Rattle.seg.proofs.tangent.seg_tangent_vector.Goals as goal

pub returns-then-not-seg_in_range : goal.returns-then-not-seg_in_range
unfolding seg_tangent
returns-then-not-seg_in_range c = search picks

pub returns-then-not-point_in_range : goal.returns-then-not-point_in_range
unfolding seg_tangent
returns-then-not-point_in_range c = search picks

pub returns-then-not-limit_in_range : goal.returns-then-not-limit_in_range
unfolding seg_tangent
returns-then-not-limit_in_range c = search picks

pub returns : goal.returns
unfolding seg_tangent
returns c = search picks
