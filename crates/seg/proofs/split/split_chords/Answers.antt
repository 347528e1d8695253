-- The smaller chord is the definition's choice, and each bulge follows by its promise.
use Rattle.seg.specs.Split.{split_chords_of}
use Rattle.seg.proofs.split.split_chords.Goals as goal

pub returns-then-chord1-chord2 : goal.returns-then-chord1-chord2
unfolding split_chords_of
returns-then-chord1-chord2 c =
    simp (c.diameter_ratio_squared-ratio.ensures, c.if-chord1-chord2.true, c.bulge_from_chord_length_squared-b1.ensures, c.other_bulge.ensures, c.split_at.ensures)

pub returns : goal.returns
unfolding split_chords_of
returns c =
    simp (c.diameter_ratio_squared-ratio.ensures, c.if-chord1-chord2.false, c.bulge_from_chord_length_squared-b2.ensures, c.other_bulge-2.ensures, c.split_at-2.ensures)
