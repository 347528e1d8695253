-- The number under the root as a whole number times a power of 4, and what `root_of` makes of that number's nearest root.
use mathlib.Core.Path.{◌≡◌, refl, sym, ap, ◌∙◌, subst}
use Prim.Native.Nat.{ℕ, zero, suc, ◌+◌, ◌-◌, ◌*◌, ◌/◌, ◌%◌, ◌^◌, ◌≤◌, ◌<◌}
use mathlib.Core.Bool.{false}
use native.Mathlib.Nat.{le_trans, le_of_eq, le_of_lt, lt_of_lt_of_le, lt_of_le_of_lt, not-le_of_lt, lt_irrefl, zero-lt-suc, zero-mul, mul-pos, mul-le-mul_left, mul-le-mul_right, mul-lt-mul_of_pos_right, mod-lt, pow-succ'}
use native.Mathlib.Omega.{arith}
use lib.Dec.{T}
use lib.Pow.{pow-add, pow_pos, pow-lt}
use lib.Ieee.{Float, Format, prec, emax, low, hid, units, round, fits}
use lib.Ieee.Fits.{round-fits}
use lib.Ieee.Exact.{HasValue, units_val}
use Rattle.real.specs.Whole.{Near}
use Rattle.real.specs.Scaled.{Scaled}
use Rattle.real.specs.Root.{twice_root, root_of}
use Rattle.real.proofs.Formats.{spare, facts}
use Rattle.real.proofs.Squares.{near_ge, near_le}
use Rattle.real.proofs.Floor.{Stands, twice_stands}
use Rattle.real.proofs.Rounding.{round_keeps, root_at}

-- of a number of u units: n * 4 ^ k stands under the root, √n has the format's digits before the point, and the root is finite
pub record Under (f : Format) (u n k : ℕ) : Type 0 where
  pub value : u * 2 ^ low f ≡ n * (2 ^ k * 2 ^ k)
  pub least : hid f * hid f ≤ n
  pub most : n < 2 ^ prec f * 2 ^ prec f
  pub some : 0 < k
  pub finite : prec f + k < low f + suc (emax f)

-- ---- from a number with all the format's digits

-- 2 ^ p, split in two equal halves and what is left
halves : (p : ℕ) → 2 ^ p ≡ 2 ^ (p / 2) * 2 ^ (p / 2) * (1 + p % 2)
halves p = ap (λ (x : ℕ). 2 ^ x) split ∙ pow-add 2 (p / 2 + p / 2) (p % 2) ∙ ap (λ (x : ℕ). x * 2 ^ (p % 2)) (pow-add 2 (p / 2) (p / 2)) ∙ ap (λ (x : ℕ). 2 ^ (p / 2) * 2 ^ (p / 2) * x) (bit (p % 2) (mod-lt p (zero-lt-suc 1)))
  where
    split : p ≡ p / 2 + p / 2 + p % 2
    split = omega arith

    bit : (c : ℕ) → c < 2 → 2 ^ c ≡ 1 + c
    bit zero h = refl
    bit (suc zero) h = refl
    bit (suc (suc c)) h = absurd (no c h)
      where
        no : (c : ℕ) → suc (suc c) < 2 → ⊥
        no c h = omega arith

-- with x, b and d for 2 ^ p, hid and 2 ^ spare, and y * y * (1 + c) for 2 ^ (p + spare)
regroup : (m u x c y b d : ℕ) → x * d ≡ y * y * (1 + c) → m * x ≡ u * b → u * (b * b * d) ≡ m * (1 + c) * b * (y * y)
regroup m u x c y b d e g =
    let h : m * x * (b * d) ≡ u * b * (b * d) = ap (λ (z : ℕ). z * (b * d)) g in
    let k : x * d * (m * b) ≡ y * y * (1 + c) * (m * b) = ap (λ (z : ℕ). z * (m * b)) e in
    omega arith

-- m once or twice has one digit more at the most
pub in_range : (f : Format) (m c : ℕ) → hid f ≤ m → m < 2 ^ prec f → c < 2 → (hid f ≤ m * (1 + c)) × (m * (1 + c) < 2 * 2 ^ prec f)
in_range f m c lo hi h =
    let g : m * (1 + c) ≤ m * 2 = mul-le-mul_left m (omega arith) in
    (omega arith, omega arith)

narrow : (n b a : ℕ) → 0 < b → a ≡ 2 * b → n < 2 * a → n * b < a * a
narrow n b a B e h =
    let g : n * b < 2 * a * b = mul-lt-mul_of_pos_right h B in
    let k : a * a ≡ a * (2 * b) = ap (λ (x : ℕ). a * x) e in
    omega arith

pub under_of : (f : Format) (u m p : ℕ) → Scaled f u m p → Under f u (m * (1 + (p + spare f) % 2) * hid f) ((p + spare f) / 2)
under_of f u m p s =
    let F = facts f in
    let t = p + spare f in
    let r = in_range f m (t % 2) s.least s.most (mod-lt t (zero-lt-suc 1)) in
    let low_is : 2 ^ low f ≡ hid f * hid f * 2 ^ spare f = ap (λ (x : ℕ). 2 ^ x) F.parts ∙ pow-add 2 (prec f - 1 + (prec f - 1)) (spare f) ∙ ap (λ (x : ℕ). x * 2 ^ spare f) (pow-add 2 (prec f - 1) (prec f - 1)) in
    record {
      value = ap (λ (x : ℕ). u * x) low_is ∙ regroup m u (2 ^ p) (t % 2) (2 ^ (t / 2)) (hid f) (2 ^ spare f) (sym (pow-add 2 p (spare f)) ∙ halves t) s.value;
      least = mul-le-mul_right (hid f) r.0;
      most = narrow (m * (1 + t % 2)) (hid f) (2 ^ prec f) (pow_pos (prec f - 1)) F.double r.1;
      some = half_pos p (spare f) F.wide;
      finite = F.finite p s.small;
    }
  where
    half_pos : (p d : ℕ) → 2 ≤ d → 0 < (p + d) / 2
    half_pos p d h = omega arith

-- ---- the root q, nearest to √n

-- a < b, both times a square above 0
times_square : (a b x : ℕ) → 0 < x → a < b → a * (x * x) < b * (x * x)
times_square a b x h l = mul-lt-mul_of_pos_right l (mul-pos h h)

-- `twice_root`'s bounds, for n * (y * y) under the root, with y = 2 * x and x for 2 ^ (k - 1), and with lo and hi for the root's bounds
bounds : (n a x q lo hi : ℕ) → 0 < x → lo * lo ≤ n → n < hi * hi → Near n (suc q) → Stands (n * (2 * x * (2 * x))) a → (2 * (lo * (2 * x)) ≤ a) × (a < 2 * (hi * (2 * x))) × (a < (2 * suc q + 1) * (2 * x)) × (2 * suc q * (2 * x) < a + 2 * x)
bounds n a x q lo hi X least most near st =
    let y = 2 * x in
    let Y : 0 < y = omega arith in
    let l = st.from (lo * y) (le_trans (le_of_eq (sym (apart lo y))) (mul-le-mul_right (y * y) least)) in
    let m = st.below (hi * y) (lt_of_lt_of_le (times_square n (hi * hi) y Y most) (le_of_eq (apart hi y))) in
    let o = st.below ((2 * suc q + 1) * x) (lt_of_le_of_lt (le_of_eq twice) (lt_of_lt_of_le (times_square (4 * n) ((2 * suc q + 1) * (2 * suc q + 1)) x X (high near)) (le_of_eq (apart (2 * suc q + 1) x)))) in
    let u = st.above ((2 * q + 1) * x) (lt_of_le_of_lt (le_of_eq (sym (apart (2 * q + 1) x))) (lt_of_lt_of_le (times_square ((2 * q + 1) * (2 * q + 1)) (4 * n) x X (low near)) (le_of_eq (sym twice)))) in
    (l, m, omega arith, omega arith)
  where
    twice : n * (2 * x * (2 * x)) ≡ 4 * n * (x * x)
    twice = omega arith

    apart : (h x : ℕ) → h * h * (x * x) ≡ h * x * (h * x)
    apart h x = omega arith

    high : Near n (suc q) → 4 * n < (2 * suc q + 1) * (2 * suc q + 1)
    high c = let g = c.above in omega arith

    low : Near n (suc q) → (2 * q + 1) * (2 * q + 1) < 4 * n
    low c = let g = c.below in omega arith

-- what `root_of` rounds a positive number of u units to
abbrev pub rounded : Format → ℕ → Float
rounded f u = round f false (twice_root (u * 2 ^ low f)) (2 * 2 ^ low f)

pub rounded_fits : (f : Format) (u : ℕ) → T (fits f (rounded f u))
rounded_fits f u = round-fits f false (twice_root (u * 2 ^ low f)) (2 * 2 ^ low f)

pub root_ge : (f : Format) (u n k q : ℕ) → Under f u n k → Near n q → hid f ≤ q
root_ge f u n k q s near = near_ge n q (hid f) near s.least

pub root_le : (f : Format) (u n k q : ℕ) → Under f u n k → Near n q → q ≤ 2 ^ prec f
root_le f u n k q s near = near_le n q (2 ^ prec f) near (le_of_lt s.most)

rounded_is : (f : Format) (u n k q : ℕ) → Under f u n k → Near n q → rounded f u ≡ units f false q k
rounded_is f u n k zero s near = absurd (not-le_of_lt (pow_pos (prec f - 1)) (root_ge f u n k zero s near))
rounded_is f u n zero (suc q) s near = absurd (lt_irrefl 0 s.some)
rounded_is f u n (suc j) (suc q) s near =
    let x = 2 ^ j in
    let y_is : 2 ^ suc j ≡ 2 * x = pow-succ' 2 j in
    let n_is : u * 2 ^ low f ≡ n * (2 * x * (2 * x)) = s.value ∙ ap (λ (z : ℕ). n * (z * z)) y_is in
    let a = twice_root (u * 2 ^ low f) in
    let st : Stands (n * (2 * x * (2 * x))) a = subst (λ (z : ℕ). Stands z a) n_is (twice_stands (u * 2 ^ low f)) in
    let b = bounds n a x q (hid f) (2 ^ prec f) (pow_pos j) s.least s.most near st in
    round_keeps f a (suc j) (suc q) record { least = rw y_is b.0; most = rw y_is b.1; over = rw y_is b.2; under = rw y_is b.3 }

pub rounded_value : (f : Format) (u n k q : ℕ) → Under f u n k → Near n q → HasValue (rounded f u) false (q * 2 ^ k) (2 ^ low f)
rounded_value f u n k q s near =
    let small : q * 2 ^ k < 2 ^ (low f + suc (emax f)) = lt_of_le_of_lt (mul-le-mul_right (2 ^ k) (root_le f u n k q s near)) (lt_of_le_of_lt (le_of_eq (sym (pow-add 2 (prec f) k))) (pow-lt s.finite)) in
    subst (λ (y : Float). HasValue y false (q * 2 ^ k) (2 ^ low f)) (sym (rounded_is f u n k q s near)) (units_val f false q k small)

units_pos : (f : Format) (u n k : ℕ) → Under f u n k → 0 < u
units_pos f zero n k s = absurd (lt_irrefl 0 (subst (λ (x : ℕ). 0 < x) (sym s.value ∙ zero-mul (2 ^ low f)) (mul-pos (lt_of_lt_of_le (mul-pos (pow_pos (prec f - 1)) (pow_pos (prec f - 1))) s.least) (mul-pos (pow_pos k) (pow_pos k)))))
units_pos f (suc u) n k s = zero-lt-suc u

pub rooted : (f : Format) (x : Float) (u n k : ℕ) → HasValue x false u (2 ^ low f) → Under f u n k → root_of f x ≡ rounded f u
rooted f x u n k v s = root_at f x u (units_pos f u n k s) v
