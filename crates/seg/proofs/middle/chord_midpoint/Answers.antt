-- Both positions by their promise.
use Rattle.seg.proofs.middle.chord_midpoint.Goals as goal

pub returns : goal.returns
returns c =
    simp (c.pos.ensures, c.pos-2.ensures, c.midpoint.ensures)
