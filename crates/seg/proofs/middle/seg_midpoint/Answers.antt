-- The guards are the definition's tests, in its order.
use Rattle.real.proofs.Pick.{picks}
use Rattle.seg.specs.Middle.{seg_mid}
use Rattle.seg.proofs.middle.seg_midpoint.Goals as goal

pub returns-then-not-seg_in_range : goal.returns-then-not-seg_in_range
unfolding seg_mid
returns-then-not-seg_in_range c = search picks

pub returns-then-not-limit_in_range : goal.returns-then-not-limit_in_range
unfolding seg_mid
returns-then-not-limit_in_range c = search picks

pub returns : goal.returns
unfolding seg_mid
returns c = search picks
