-- The root of the first 28 digits, then by `extend` that of all 54.
use Prim.Native.Nat.{◌^◌}
use native.Mathlib.Omega.{arith}
use lib.Dec.{lit≤}
use Rattle.real.proofs.Squares.{root_ge, root_lt, renamed, all_54}
use borrow.Author.Rules.{rules}
use Rattle.real.proofs.whole.whole.Goals as goal

pub first-a-requires : goal.first-a-requires
first-a-requires c = search rules

pub extend-requires : goal.extend-requires
extend-requires c =
    let h = c.first-a.ensures in
    let s-ge = root_ge _ _ _ (2 ^ 13) h (omega (arith, c.requires)) in
    let s-lt = root_lt _ _ _ (2 ^ 14) h (omega (arith, c.requires)) in
    record { root = omega arith; base = lit≤ tt; step = record { rest = h.rest; wide = omega arith; high = omega arith; low = omega arith } }

pub returns : goal.returns
returns c = renamed (all_54 c.args.m _ c.first-a.ensures.sum) c.extend.ensures
