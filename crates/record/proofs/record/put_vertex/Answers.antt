-- Three numbers, one after the other.
use Rattle.record.specs.Record.{vertex_bytes}
use Rattle.text.proofs.Writing.{three}
use Rattle.record.proofs.record.put_vertex.Goals as goal

pub returns : goal.returns
unfolding vertex_bytes
returns c = three c.put_number-a.ensures.piece c.put_number-b.ensures.piece c.put_number.ensures.piece
