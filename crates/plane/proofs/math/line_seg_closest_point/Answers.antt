-- Chord, projection and squared length by the promises of the vector calls.
use Rattle.plane.proofs.math.line_seg_closest_point.Goals as goal

pub returns : goal.returns
returns c =
    simp (c.sub-chord.ensures, c.sub.ensures, c.dot-projection.ensures, c.length_squared.ensures, c.line_closest.ensures)
