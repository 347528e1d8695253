-- The five numbers' bytes, and two zeros between them.
use mathlib.Core.Path.{◌≡◌, refl, ap, ◌∙◌}
use mathlib.Core.Bool.{Bool, true, false}
use mir.Syntax.{w16}
use mir.Val.{bool_byte}
use Rattle.std.specs.Int.{to_le_bytes}
use Rattle.record.specs.Bytes.{bytes4}
use Rattle.outline_sheet.specs.Sheet.{bytes2, flags_of, header_bytes}
use Rattle.outline_sheet.proofs.header.header.Goals as goal

flag : (closed : Bool) → bool_byte closed ≡ flags_of closed
flag true = refl
flag false = refl

pub returns : goal.returns
unfolding header_bytes bytes2 bytes4
returns c =
    rw (
      c.copy_from_slice.ensures.after ∙ c.to_le_bytes.ensures,
      c.copy_from_slice-2.ensures.after ∙ c.to_le_bytes-2.ensures ∙ ap (to_le_bytes w16) (c.from.ensures ∙ flag c.args.closed),
      c.copy_from_slice-3.ensures.after ∙ c.to_le_bytes-3.ensures,
      c.copy_from_slice-4.ensures.after ∙ c.to_le_bytes-4.ensures,
      c.copy_from_slice-5.ensures.after ∙ c.to_le_bytes-5.ensures,
    )
    refl
