-- The end's position by its promise.
use Rattle.seg.proofs.split.split_at_end.Goals as goal

pub returns : goal.returns
returns c =
    simp (c.pos.ensures, c.split_at.ensures)
