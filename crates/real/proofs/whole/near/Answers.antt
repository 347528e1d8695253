-- `extend` has the root s and the rest r of m * 2 ^ 52, and the nearest whole number is s + 1 where r is above s.
use mathlib.Core.Path.{◌≡◌}
use Prim.Native.Nat.{ℕ, ◌+◌, ◌*◌, ◌^◌}
use native.Mathlib.Omega.{arith}
use lib.Dec.{lit≤, lit<}
use Rattle.real.specs.Whole.{Root}
use Rattle.real.proofs.Squares.{root_ge, root_lt, renamed, near_up, near_down}
use Rattle.real.proofs.whole.near.Goals as goal
use Rattle.real.proofs.whole.near.Goals.{After-extend-s}

all : (c : After-extend-s) → Root (c.args.m * 2 ^ 52) c.extend-s.result.s c.extend-s.result.r
all c = renamed (zeros c.args.m _ c.whole.ensures.sum) c.extend-s.ensures
  where
    zeros : (m x : ℕ) → x ≡ m → x * (2 ^ 26 * 2 ^ 26) + 0 * 2 ^ 26 + 0 ≡ m * 2 ^ 52
    zeros m x h = omega arith

pub extend-s-requires : goal.extend-s-requires
extend-s-requires c =
    let h = c.whole.ensures in
    let s-ge = root_ge _ _ _ (2 ^ 26) h (omega (arith, c.requires)) in
    let s-lt = root_lt _ _ _ (2 ^ 27) h (omega (arith, c.requires)) in
    record { root = s-lt; base = lit≤ tt; step = record { rest = h.rest; wide = omega arith; high = lit< tt; low = lit< tt } }

pub returns-else-r-s : goal.returns-else-r-s
returns-else-r-s c =
    near_down _ _ _ (omega (arith, c.requires)) (all (goal.at.returns-else-r-s c).After-extend-s) c.if-r-s.false

pub returns-then-r-s : goal.returns-then-r-s
returns-then-r-s c = near_up _ _ _ (all (goal.at.returns-then-r-s c).After-extend-s) c.if-r-s.true
