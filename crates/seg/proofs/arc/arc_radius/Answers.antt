-- The definition's product, by the promises of its three factors.
use Rattle.seg.specs.Arc.{radius_of}
use Rattle.seg.proofs.arc.arc_radius.Goals as goal

pub returns : goal.returns
unfolding radius_of
returns c =
    simp (c.chord.ensures, c.length.ensures, c.inv_four_bulge.ensures, c.magnitude.ensures)
