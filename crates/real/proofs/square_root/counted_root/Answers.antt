-- The root by its promise, and one for it.
use Rattle.real.proofs.square_root.counted_root.Goals as goal

pub returns : goal.returns
returns c = simp c.root.ensures
