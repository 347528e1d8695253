-- Radius and centre by their promises.
use Rattle.seg.proofs.arc.arc_circle.Goals as goal

pub returns : goal.returns
returns c = simp (c.arc_radius-radius.ensures, c.arc_center-center.ensures)
