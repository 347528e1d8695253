-- The test is the definition's.
use Rattle.real.proofs.Pick.{picks}
use Rattle.seg.specs.Tangent.{tangent_of}
use Rattle.seg.proofs.tangent.tangent.Goals as goal

pub returns-then-bulge_is_zero : goal.returns-then-bulge_is_zero
unfolding tangent_of
returns-then-bulge_is_zero c = search picks

pub returns : goal.returns
unfolding tangent_of
returns c = search picks
