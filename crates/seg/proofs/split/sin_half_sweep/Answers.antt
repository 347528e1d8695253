-- The test is the definition's.
use Rattle.real.proofs.Pick.{picks}
use Rattle.seg.proofs.split.sin_half_sweep.Goals as goal

pub returns-then-squared : goal.returns-then-squared
returns-then-squared c = search picks

pub returns : goal.returns
returns c = search picks
