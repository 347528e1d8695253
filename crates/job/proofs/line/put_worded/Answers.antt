-- The word, the number and the byte, one after the other.
use Rattle.text.proofs.Writing.{three}
use Rattle.job.proofs.line.put_worded.Goals as goal

pub returns : goal.returns
returns c =
    three c.put_text-a.ensures.piece c.put_decimal-b.ensures.piece c.put_byte.ensures.piece
