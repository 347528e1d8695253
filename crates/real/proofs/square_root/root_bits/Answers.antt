-- The number under the root is m or 2 * m, times hid and a power of 4, and `near` has its nearest root: the pattern's digits.
use Prim.Native.Nat.{◌+◌, ◌*◌, ◌%◌, ◌^◌, ◌≤◌, ◌<◌}
use native.Mathlib.Nat.{mod-lt, zero-lt-suc}
use native.Mathlib.Omega.{arith}
use lib.Ieee.{binary64, prec, hid}
use Rattle.real.proofs.Under.{in_range, under_of, root_le}
use Rattle.real.proofs.Patterns.{root_pattern}
use Rattle.real.proofs.square_root.root_bits.Goals as goal
use Rattle.real.proofs.square_root.root_bits.Goals.{After-scale-x}

-- the number under the root has as many digits as `near` asks
in_reach : (c : After-scale-x) → (hid binary64 ≤ c.scale-x.result.m * (1 + (c.scale-x.result.p + 970) % 2)) × (c.scale-x.result.m * (1 + (c.scale-x.result.p + 970) % 2) < 2 * 2 ^ prec binary64)
in_reach c = in_range binary64 _ _ c.scale-x.ensures.least c.scale-x.ensures.most (mod-lt (c.scale-x.result.p + 970) (zero-lt-suc 1))

pub overflow_add-result : goal.overflow_add-result
overflow_add-result c =
    let q_le = root_le binary64 _ _ _ _ (under_of binary64 _ _ _ c.scale-x.ensures) c.near-q.ensures in
    let p-le = c.scale-x.ensures.small in
    omega arith

pub returns : goal.returns
returns c =
    let s = under_of binary64 _ _ _ c.scale-x.ensures in
    let q_le = root_le binary64 _ _ _ _ s c.near-q.ensures in
    let p-le = c.scale-x.ensures.small in
    record { finite = omega arith; rooted = root_pattern binary64 c.args.b _ _ c.near-q.result c.requires.finite s c.near-q.ensures }

pub overflow_mul-x : goal.overflow_mul-x
overflow_mul-x c = let r = in_reach c.before.before in omega arith

pub near-q-requires : goal.near-q-requires
near-q-requires c = let r = in_reach c.before.before in record { least = r.0; below = r.1 }
