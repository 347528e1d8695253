-- The pieces of the line, one after the other.
use Rattle.text.proofs.Writing.{five}
use Rattle.job.specs.Lines.{outline_line}
use Rattle.job.proofs.line.put_outline.Goals as goal

pub returns : goal.returns
unfolding outline_line
returns c =
    five c.put_text-a.ensures.piece c.put_decimal-b.ensures.piece c.put_byte-c.ensures.piece c.put_decimal-d.ensures.piece c.put_either.ensures.piece
