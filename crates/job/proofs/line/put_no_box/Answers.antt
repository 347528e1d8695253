-- The words, and then the line's end.
use Rattle.text.proofs.Writing.{then}
use Rattle.job.proofs.line.put_no_box.Goals as goal

pub returns : goal.returns
returns c =
    then c.put_text-a.ensures.piece c.put_box_end.ensures.piece
