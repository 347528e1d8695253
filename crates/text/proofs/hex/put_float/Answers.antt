-- The space and the digits, where there is room for them.
use mathlib.Core.Path.{ap, ap₂, ◌∙◌}
use mathlib.Core.List.{◌++◌}
use native.Mathlib.Nat.{le_of_eq}
use Rattle.text.specs.Digits.{hex, float}
use Rattle.text.proofs.Writing.{one, next, named, allowed, refused}
use Rattle.text.proofs.Digits.{hex_halves, float_length}
use Rattle.text.proofs.hex.put_float.Goals as goal

pub returns-then-not-has_room : goal.returns-then-not-has_room
returns-then-not-has_room c = refused c.has_room.ensures c.if-not-has_room.true (float_length _)

pub returns : goal.returns
unfolding float
returns c =
    let digits = ap₂ ◌++◌ c.glyphs.ensures c.glyphs-2.ensures ∙ hex_halves c.bits-pattern.result ∙ ap (hex 16) c.bits-pattern.ensures in
    allowed c.has_room.ensures c.if-not-has_room.false (le_of_eq (float_length c.args.x))
    (next (one _ _ _) (named digits (next c.copy-middle.ensures c.copy.ensures)))
