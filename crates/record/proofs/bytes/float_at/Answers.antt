-- The pattern of the eight bytes, as a float.
use mathlib.Core.Path.{ap, ◌∙◌}
use native.Mathlib.Omega.{arith}
use lib.Ieee.{of_bits, binary64}
use Rattle.record.specs.Bytes.{float_at}
use Rattle.record.proofs.Words.{from64}
use Rattle.record.proofs.bytes.float_at.Goals as goal

pub returns : goal.returns
unfolding float_at
returns c =
    c.from_bits.ensures ∙ ap (of_bits binary64) (c.from_le_bytes.ensures ∙ from64 c.args.bytes.now _ c.args.at _ c.bytes_at.ensures (omega arith))
