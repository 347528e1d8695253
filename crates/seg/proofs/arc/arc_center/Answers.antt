-- The start, half the chord and the rise, by the promises of the vector calls.
use Rattle.seg.specs.Arc.{center_of}
use Rattle.seg.proofs.arc.arc_center.Goals as goal

pub returns : goal.returns
unfolding center_of
returns c =
    simp (c.chord-c.ensures, c.scale-half.ensures, c.perp.ensures, c.inv_four_bulge.ensures, c.scale-rise.ensures, c.pos.ensures, c.add.ensures, c.add-2.ensures)
