-- The pieces of the line, one after the other.
use Rattle.text.proofs.Writing.{five}
use Rattle.job.specs.Lines.{number_field, view_line}
use Rattle.job.proofs.line.put_view_line.Goals as goal

pub returns : goal.returns
unfolding view_line number_field
returns c =
    five c.put_head-a.ensures c.put_decimal-b.ensures.piece c.put_mark-c.ensures.piece c.put_decimal-d.ensures.piece c.put_worded.ensures
