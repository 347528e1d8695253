-- Both radius vectors by the promises of the vector calls.
use Rattle.seg.specs.Bounds.{start_radius, end_radius}
use Rattle.seg.proofs.bounds.arc_crossings.Goals as goal

pub returns : goal.returns
unfolding start_radius end_radius
returns c =
    simp (c.chord-c.ensures, c.perp.ensures, c.scale-scaled_perp.ensures, c.scale-scaled_chord.ensures, c.sub.ensures, c.add.ensures, c.find_crossings.ensures)
