-- Both perpendicular dots by the promises of the vector calls.
use Rattle.plane.proofs.math.point_within_arc_sweep.Goals as goal

pub returns : goal.returns
returns c =
    simp (c.sub-offset.ensures, c.sub.ensures, c.perp_dot-a.ensures, c.sub-2.ensures, c.perp_dot-b.ensures, c.in_sweep.ensures)
