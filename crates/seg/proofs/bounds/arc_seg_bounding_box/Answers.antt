-- The box of the ends and the crossings, as the definition names them.
use Rattle.seg.specs.Bounds.{arc_box_of}
use Rattle.seg.proofs.bounds.arc_seg_bounding_box.Goals as goal

pub returns : goal.returns
unfolding arc_box_of
returns c =
    simp (c.ends_box.ensures, c.arc_crossings.ensures, c.arc_box.ensures)
