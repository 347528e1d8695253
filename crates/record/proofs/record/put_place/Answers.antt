-- Two numbers, one after the other.
use Rattle.record.specs.Record.{place_bytes}
use Rattle.text.proofs.Writing.{then}
use Rattle.record.proofs.record.put_place.Goals as goal

pub returns : goal.returns
unfolding place_bytes
returns c = then c.put32-a.ensures.piece c.put32.ensures.piece
