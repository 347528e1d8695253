-- The pieces of the record, one after the other.
use Rattle.record.specs.Record.{record_bytes}
use Rattle.text.proofs.Writing.{five}
use Rattle.record.proofs.record.put_record.Goals as goal

pub returns : goal.returns
unfolding record_bytes
returns c = five c.put_place-a.ensures c.put_vertex-b.ensures c.put_number-c.ensures.piece c.put_point-e.ensures c.put_end.ensures
