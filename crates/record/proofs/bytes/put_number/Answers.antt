-- The pattern's bytes, the least first.
use mathlib.Core.Path.{ap, ◌∙◌}
use Rattle.record.specs.Bytes.{bytes8, float_bytes}
use Rattle.text.proofs.Writing.{put_named}
use Rattle.record.proofs.Words.{to64}
use Rattle.record.proofs.bytes.put_number.Goals as goal

pub returns : goal.returns
unfolding float_bytes
returns c = put_named (c.to_le_bytes.ensures ∙ to64 c.bits.result ∙ ap bytes8 c.bits.ensures) c.put_text.ensures
