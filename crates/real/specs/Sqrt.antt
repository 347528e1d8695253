-- The public square root's answer. "Square root takes every finite number from minus zero up, and refuses others with 1."
use Rattle.std.specs.Prelude.{◌≡◌, Bool, true, false, ◌&&◌, pos, Float}
use Rattle.std.specs.Float.{inf, fin, Format}
use Rattle.std.specs.Float.Ieee.{le, lt}
use Rattle.real.specs.Refusal.{bad_number}
use Rattle.real.specs.Reply.{Reply, refused, given}
use Rattle.real.specs.Root.{IsRoot}

-- a finite number from minus zero up: -0 compares as +0, and a NaN fails both tests
unfoldable pub rootable : Float → Bool
rootable x = le (fin false 0 (pos 0)) x && lt x (inf false)

unfoldable pub IsSqrt : Format → Float → Reply Float → Type 0
IsSqrt f x (given r) = (rootable x ≡ true) × IsRoot f x r
IsSqrt f x (refused n) = (rootable x ≡ false) × (n ≡ bad_number)
