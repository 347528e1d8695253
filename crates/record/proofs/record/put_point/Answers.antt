-- Two numbers, one after the other.
use Rattle.record.specs.Record.{point_bytes}
use Rattle.text.proofs.Writing.{then}
use Rattle.record.proofs.record.put_point.Goals as goal

pub returns : goal.returns
unfolding point_bytes
returns c = then c.put_number-a.ensures.piece c.put_number.ensures.piece
