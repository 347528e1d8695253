-- The difference of the two positions.
use Rattle.seg.proofs.arc.chord.Goals as goal

pub returns : goal.returns
returns c =
    simp (c.pos.ensures, c.pos-2.ensures, c.sub.ensures)
