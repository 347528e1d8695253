-- The least four bytes of eight.
use mathlib.Core.Path.{ap}
use lib.ListN.{take}
use Rattle.record.specs.Bytes.{bytes4}
use Rattle.text.proofs.Writing.{put_named}
use Rattle.record.proofs.bytes.put32.Goals as goal

pub returns : goal.returns
unfolding bytes4
returns c = put_named (ap (take 4) c.to_le_bytes.ensures) c.put_text.ensures
