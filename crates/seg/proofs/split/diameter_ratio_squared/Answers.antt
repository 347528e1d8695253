-- The magnitude's promise, in the definition's quotient.
use Rattle.seg.specs.Split.{ratio_sq}
use Rattle.seg.proofs.split.diameter_ratio_squared.Goals as goal

pub returns : goal.returns
unfolding ratio_sq
returns c = simp c.magnitude-a.ensures
