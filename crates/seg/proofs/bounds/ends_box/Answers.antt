-- Both positions by their promise.
use Rattle.seg.proofs.bounds.ends_box.Goals as goal

pub returns : goal.returns
returns c =
    simp (c.pos.ensures, c.pos-2.ensures, c.line_seg_bounding_box.ensures)
