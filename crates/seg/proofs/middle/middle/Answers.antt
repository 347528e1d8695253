-- The test is the definition's.
use Rattle.real.proofs.Pick.{picks}
use Rattle.seg.specs.Middle.{mid_of}
use Rattle.seg.proofs.middle.middle.Goals as goal

pub returns-then-bulge_is_zero : goal.returns-then-bulge_is_zero
unfolding mid_of
returns-then-bulge_is_zero c = search picks

pub returns : goal.returns
unfolding mid_of
returns c = search picks
