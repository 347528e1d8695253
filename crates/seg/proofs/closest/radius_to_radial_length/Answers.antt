-- The definition's product, by the promises of its factors.
use Rattle.real.proofs.Tallies.{value_of, roots_of}
use Rattle.seg.specs.Closest.{radial_scale_by}
use Rattle.seg.proofs.closest.radius_to_radial_length.Goals as goal

pub returns : goal.returns
unfolding radial_scale_by
returns c =
    let ratio = c.counted_root-ratio.ensures in
    simp (value_of ratio, roots_of ratio, c.inv_four_bulge.ensures, c.magnitude.ensures)
