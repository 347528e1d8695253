-- The chord between two roots of the table is the root or one less, which the rest tells.
use mathlib.Core.Path.{◌≡◌, refl, sym, subst}
use Prim.Native.Nat.{ℕ, suc, ◌+◌, ◌-◌, ◌*◌, ◌/◌, ◌%◌, ◌^◌}
use native.Mathlib.Omega.{arith}
use Rattle.real.specs.Root.{isqrt}
use Rattle.real.proofs.Floor.{Floor, isqrt_floor}
use Rattle.real.proofs.Chord.{Chord, chord, one_more, as_it_is}
use Rattle.real.proofs.whole.first.Goals as goal
use Rattle.real.proofs.whole.first.Goals.{After-tabled-a}

entry : (i j a : ℕ) → a ≡ isqrt ((32 + j) * 2 ^ 23) → 32 + j ≡ i → Floor (i * 2 ^ 23) a
entry i j a e h = subst (λ (z : ℕ). Floor (z * 2 ^ 23) a) h (subst (λ (z : ℕ). Floor ((32 + j) * 2 ^ 23) z) (sym e) (isqrt_floor ((32 + j) * 2 ^ 23)))

between : (c : After-tabled-a) → Chord c.args.n (c.args.n % 2 ^ 21) c.tabled-a.result.0 c.tabled-a.result.1
between c =
    let n = c.args.n in
    let i = n / 2 ^ 21 in
    let r = c.tabled-a.result in
    let pre = c.requires in
    chord n i r.0 r.1 refl pre.least pre.below
    (entry i (i - 32) r.0 c.tabled-a.ensures.here (omega arith))
    (entry (suc i) (i - 32 + 1) r.1 c.tabled-a.ensures.next (omega arith))

pub returns-then-r-s : goal.returns-then-r-s
returns-then-r-s c = let h = between c.before in one_more _ _ h.low h.high c.if-r-s.true

pub returns-else-r-s : goal.returns-else-r-s
returns-else-r-s c = let h = between c.before in as_it_is _ _ h.low c.if-r-s.false

pub overflow_mul-s : goal.overflow_mul-s
overflow_mul-s c = let h = between c in omega arith

pub overflow_mul-s-2 : goal.overflow_mul-s-2
overflow_mul-s-2 c = let h = between c in omega arith

pub overflow_add-s : goal.overflow_add-s
overflow_add-s c = let h = between c in omega arith

pub overflow_mul-r : goal.overflow_mul-r
overflow_mul-r c = let h = between c in omega arith

pub overflow_sub-r : goal.overflow_sub-r
overflow_sub-r c = let h = between c in omega arith

pub overflow_mul-s-3 : goal.overflow_mul-s-3
overflow_mul-s-3 c = let h = between c in omega arith
