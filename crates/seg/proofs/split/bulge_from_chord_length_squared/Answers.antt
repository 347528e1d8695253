-- The sine, the cosine and the sign, by their promises.
use Rattle.seg.specs.Split.{part_bulge}
use Rattle.seg.proofs.split.bulge_from_chord_length_squared.Goals as goal

pub returns : goal.returns
unfolding part_bulge
returns c =
    simp (c.sin_half_sweep-s.ensures, c.root-c.ensures, c.signed.ensures)
