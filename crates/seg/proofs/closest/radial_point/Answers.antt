-- The radial, scaled, by the promises of the vector calls.
use native.Mathlib.Nat.{add-zero}
use Rattle.real.proofs.Tallies.{value_of, roots_of}
use Rattle.seg.specs.Closest.{radial_by}
use Rattle.seg.proofs.closest.radial_point.Goals as goal

pub returns : goal.returns
unfolding radial_by
returns c =
    let scale = c.radius_to_radial_length-k.ensures in
    simp (c.sub-radial.ensures, c.chord.ensures, c.length_squared-c2.ensures, c.length_squared.ensures, value_of scale, roots_of scale, add-zero, c.scale.ensures, c.add.ensures)
