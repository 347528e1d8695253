-- The three squared chords by the promises of the vector calls.
use Rattle.seg.specs.Split.{split_arc_of}
use Rattle.seg.proofs.split.split_arc.Goals as goal

pub returns : goal.returns
unfolding split_arc_of
returns c =
    simp (c.chord.ensures, c.length_squared-whole.ensures, c.pos.ensures, c.sub.ensures, c.length_squared-chord1.ensures, c.pos-2.ensures, c.sub-2.ensures, c.length_squared-chord2.ensures, c.split_chords.ensures)
