-- Three times each part is spread to two, until each holds a digit; then the codes are added to all at once (Spread).
use mathlib.Core.Path.{◌∙◌}
use native.Mathlib.Omega.{arith}
use Rattle.text.proofs.Spread.{halves_are, halves_masked, bytes_are, bytes_masked, bytes_lt, digits_le, carries_le, glyphs_are, hex_bytes}
use Rattle.text.proofs.hex.glyphs.Goals as goal

pub overflow_mul-bytes-2 : goal.overflow_mul-bytes-2
overflow_mul-bytes-2 c = let m = halves_masked c.args.x c.requires in omega arith

pub overflow_sub-bytes : goal.overflow_sub-bytes
overflow_sub-bytes c = let h = halves_are c.args.x c.requires in let m = halves_masked c.args.x c.requires in omega arith

pub overflow_mul-digits : goal.overflow_mul-digits
overflow_mul-digits c = let b = bytes_lt c.args.x c.requires in omega arith

pub overflow_mul-digits-2 : goal.overflow_mul-digits-2
overflow_mul-digits-2 c = let m = bytes_masked c.args.x c.requires in omega arith

pub overflow_sub-digits : goal.overflow_sub-digits
overflow_sub-digits c = let b = bytes_are c.args.x c.requires in let m = bytes_masked c.args.x c.requires in omega arith

pub overflow_add-past_9 : goal.overflow_add-past_9
overflow_add-past_9 c = let d = digits_le c.args.x c.requires in omega arith

pub overflow_add-codes : goal.overflow_add-codes
overflow_add-codes c = let d = digits_le c.args.x c.requires in omega arith

pub overflow_mul-codes : goal.overflow_mul-codes
overflow_mul-codes c = let k = carries_le c.args.x c.requires in omega arith

pub overflow_add-codes-2 : goal.overflow_add-codes-2
overflow_add-codes-2 c = let d = digits_le c.args.x c.requires in let k = carries_le c.args.x c.requires in omega arith

pub returns : goal.returns
returns c = c.to_le_bytes.ensures ∙ hex_bytes c.args.x _ (glyphs_are c.args.x c.requires)
