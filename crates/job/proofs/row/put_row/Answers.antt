-- The pieces of the row, one after the other.
use Rattle.text.proofs.Writing.{five}
use Rattle.job.specs.Rows.{row}
use Rattle.job.proofs.row.put_row.Goals as goal

pub returns : goal.returns
unfolding row
returns c =
    five c.put_decimal-a.ensures.piece c.put_float-b.ensures.piece c.put_float-c.ensures.piece c.put_float-d.ensures.piece c.put_byte.ensures.piece
