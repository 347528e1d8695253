-- The test is the definition's.
use Rattle.real.proofs.Pick.{picks}
use Rattle.seg.specs.Bounds.{box_of}
use Rattle.seg.proofs.bounds.true_box.Goals as goal

pub returns-then-bulge_is_zero : goal.returns-then-bulge_is_zero
unfolding box_of
returns-then-bulge_is_zero c = search picks

pub returns : goal.returns
unfolding box_of
returns c = search picks
