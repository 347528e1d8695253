-- Min-max of each coordinate, by its promise.
use Rattle.seg.proofs.bounds.line_seg_bounding_box.Goals as goal

pub returns : goal.returns
returns c = simp (c.min_max-x.ensures, c.min_max-y.ensures)
