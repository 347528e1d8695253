-- The direction as a number, and then the cut number.
use mathlib.Core.Path.{◌≡◌, refl, ap, ◌∙◌}
use mathlib.Core.Bool.{Bool, true, false}
use Prim.Native.Nat.{ℕ}
use Rattle.record.specs.Bytes.{bytes4}
use Rattle.record.specs.Record.{direction_of, end_bytes}
use Rattle.text.proofs.Writing.{then, named_piece}
use Rattle.record.proofs.record.put_end.Goals as goal

pub returns : goal.returns
unfolding end_bytes
returns c = then (named_piece (ap bytes4 (c.from.ensures ∙ is c.args.inverted)) c.put32-a.ensures.piece) c.put32.ensures.piece
  where
    is : (b : Bool) → mir.Val.bool_byte b ≡ direction_of b
    is true = refl
    is false = refl
