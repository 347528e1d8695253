-- The tests are the definition's, in its order.
use Rattle.seg.specs.Distance.{ring_far_of}
use Rattle.seg.proofs.distance.ring_far.Goals as goal

pub returns-then-r2-outer_radius : goal.returns-then-r2-outer_radius
unfolding ring_far_of
returns-then-r2-outer_radius c = simp c.if-r2-outer_radius.true

pub returns-then-radius-distance : goal.returns-then-radius-distance
unfolding ring_far_of
returns-then-radius-distance c = simp (c.if-r2-outer_radius.false, c.if-radius-distance.true)

pub returns : goal.returns
unfolding ring_far_of
returns c = simp (c.if-r2-outer_radius.false, c.if-radius-distance.false)
