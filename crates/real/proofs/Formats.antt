-- The facts on a format's numbers that the proofs use, computed for each of the two. Every other law is one for both.
use mathlib.Core.Path.{◌≡◌, refl}
use Prim.Native.Nat.{ℕ, suc, ◌+◌, ◌-◌, ◌*◌, ◌/◌, ◌^◌, ◌≤◌, ◌<◌}
use native.Mathlib.Omega.{arith}
use lib.Dec.{lit≤}
use lib.Ieee.{Format, binary32, binary64, prec, emax, low, hid}

-- what `low` has beyond the digits after the leading one, counted twice: 103 and 970
abbrev pub spare : Format → ℕ
spare f = low f - 2 * (prec f - 1)

pub record Facts (f : Format) : Type 0 where
  pub double : 2 ^ prec f ≡ 2 * hid f
  pub parts : low f ≡ prec f - 1 + (prec f - 1) + spare f
  pub wide : 2 ≤ spare f
  pub finite : (p : ℕ) → p < low f + suc (emax f) → prec f + (p + spare f) / 2 < low f + suc (emax f)

pub facts : (f : Format) → Facts f
facts binary32 = record { double = refl; parts = refl; wide = lit≤ tt; finite = λ p h. omega arith }
facts binary64 = record { double = refl; parts = refl; wide = lit≤ tt; finite = λ p h. omega arith }
