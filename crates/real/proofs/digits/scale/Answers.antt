-- The digits are moved up until they are 53, or the leading one is put before them; the exponent says by how much.
use Prim.Native.Nat.{ℕ, ◌%◌, ◌^◌}
use native.Mathlib.Omega.{arith}
use lib.Dec.{lit≤}
use lib.Ieee.{binary64}
use Rattle.real.proofs.Scale.{Lead, lead, scale_low, scale_mid}
use Rattle.real.proofs.digits.scale.Goals as goal
use Rattle.real.proofs.digits.scale.Goals.{Then-e-eq0}

-- the leading digit of a fraction without one of its own
top : (c : Then-e-eq0) → (j : ℕ) × Lead binary64 64 (c.args.b % 2 ^ 52) j
top c = lead binary64 64 (c.args.b % 2 ^ 52) (lit≤ tt) (omega arith) (omega arith)

pub returns-then-e-eq0 : goal.returns-then-e-eq0
returns-then-e-eq0 c = scale_low binary64 64 c.args.b (lit≤ tt) (omega arith) c.if-e-eq0.true

pub returns-else-e-eq0 : goal.returns-else-e-eq0
returns-else-e-eq0 c = scale_mid binary64 c.args.b c.requires.finite (omega arith)

pub overflow_sub-z : goal.overflow_sub-z
overflow_sub-z c = let h = (top c).1 in omega arith

pub overflow_cast-result : goal.overflow_cast-result
overflow_cast-result c = let h = (top c).1 in omega arith

pub overflow_shl-result : goal.overflow_shl-result
overflow_shl-result c = let h = (top c).1 in omega arith

pub overflow_sub-result : goal.overflow_sub-result
overflow_sub-result c = let h = (top c).1 in omega arith
