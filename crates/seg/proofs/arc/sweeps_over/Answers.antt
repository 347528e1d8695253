-- Both positions and the direction by their promises.
use Rattle.seg.proofs.arc.sweeps_over.Goals as goal

pub returns : goal.returns
returns c =
    simp (c.pos.ensures, c.pos-2.ensures, c.bulge_is_neg.ensures, c.point_within_arc_sweep.ensures)
