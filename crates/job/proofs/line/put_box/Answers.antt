-- The pieces of the line, one after the other.
use Rattle.text.proofs.Writing.{then, three}
use Rattle.job.specs.Lines.{box_words}
use Rattle.job.proofs.line.put_box.Goals as goal

pub returns : goal.returns
unfolding box_words
returns c =
    then (three c.put_text-a.ensures.piece c.put_floats-c.ensures c.put_floats-d.ensures) c.put_box_end.ensures.piece
