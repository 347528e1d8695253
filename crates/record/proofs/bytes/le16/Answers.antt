-- Two bytes, each once.
use mathlib.Core.Path.{◌∙◌}
use native.Mathlib.Omega.{arith}
use Rattle.record.proofs.Words.{from16}
use Rattle.record.proofs.bytes.le16.Goals as goal

pub returns : goal.returns
returns c =
    let h = c.from_le_bytes.type_inv in
    (c.from_le_bytes.ensures ∙ from16 c.args.bytes.now _ c.args.at _ c.bytes_at.ensures (omega arith), omega arith)
