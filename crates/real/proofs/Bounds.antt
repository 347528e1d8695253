-- Bounds of rounded results: from operands between bounds an operation gives a result between the exact result's bounds, where the format holds those.
-- Nothing asks that the operands fit the format.
use mathlib.Core.Path.{◌≡◌, refl, sym, ap, ◌∙◌, subst}
use mathlib.Core.Logic.{◌⊎◌, inl, inr}
use Prim.Native.Nat.{ℕ, zero, suc, ◌+◌, ◌-◌, ◌*◌, ◌/◌, ◌^◌, ◌≤◌, ◌<◌, zero-le}
use mathlib.Core.Bool.{Bool, true, false, not, cond, ◌&&◌, ◌||◌, beq, true≢false}
use native.Mathlib.Nat.{not-le_of_lt, le_trans, le_of_eq, le_of_lt, lt_of_lt_of_le, lt_irrefl, mul_comm, mul_left_comm, mul-one, one-mul, zero-mul, mul-pos, mul-le-mul, mul-le-mul_left, mul-le-mul_right, mul-mul-mul_comm, le_of_mul-le-mul_right, div-mul-le_self}
use native.Mathlib.Omega.{arith}
use lib.IntN.{ℤ}
use lib.Dec.{T, T_not, ltb, eqb, ltb→lt, nltb→le, eqb→eq}
use lib.Arith.{le-zero, lt_of_le-ne}
use lib.Pow.{pow-add, pow_pos, pow-lt}
use lib.Ieee.{Float, nan, inf, fin, Format, prec, emax, low, up, down, unlike, odd, units, round, neg, sum, add, sub, mul, div, lt, le}
use lib.Ieee.Digits.{back}
use lib.Ieee.Fits.{two, two-le_pos, and_r, eq→eqb, down_pos, round_is}
use lib.Ieee.Exact.{HasValue, round_exact}
use lib.Ieee.Back.{round_whole}
use lib.Ieee.Order.{le_of_values, round_mono}
use lib.Ieee.Positive.{num, den, den_pos, first_pos}
use borrow.Author.Tests.{ltb-false, ne_eqb}
use Rattle.real.specs.Root.{abs_of, count, isqrt, twice_root, root_of}
use Rattle.real.proofs.Squares.{sq_lt_back}
use Rattle.real.proofs.Floor.{isqrt_floor}
use Rattle.real.proofs.Values.{abs_odd}

-- finite, of either sign, and of magnitude at most a
pub data Within (a : ℕ) : Float → Type 0 where
  within : (s : Bool) (m : ℕ) (e : ℤ) → m * up e ≤ a * down e → Within a (fin s m e)

-- without a sign, and at most a
pub data Upto (a : ℕ) : Float → Type 0 where
  upto : (m : ℕ) (e : ℤ) → m * up e ≤ a * down e → Upto a (fin false m e)

-- the same, but a zero may have a sign
pub data Level (a : ℕ) : Float → Type 0 where
  signless : (m : ℕ) (e : ℤ) → m * up e ≤ a * down e → Level a (fin false m e)
  nought : (s : Bool) (m : ℕ) (e : ℤ) → m * up e ≡ 0 → Level a (fin s m e)

-- finite, without a sign, and at least 2 ^ -k
pub data From (k : ℕ) : Float → Type 0 where
  from : (m : ℕ) (e : ℤ) → down e ≤ m * up e * 2 ^ k → From k (fin false m e)

-- two numbers of one sign, or the first is a zero
pub data Alike : Float → Float → Type 0 where
  alike : (s : Bool) (m n : ℕ) (e d : ℤ) → Alike (fin s m e) (fin s n d)
  void : (s t : Bool) (m n : ℕ) (e d : ℤ) → m * up e ≡ 0 → Alike (fin s m e) (fin t n d)

pub level : {a : ℕ} {x : Float} → Upto a x → Level a x
level (upto m e h) = signless m e h

level_most : {a : ℕ} {x : Float} → Level a x → num x ≤ a * den x
level_most (signless m e h) = h
level_most (nought s m e z) = le_trans (le_of_eq z) zero-le

from_least : {k : ℕ} {x : Float} → From k x → den x ≤ num x * 2 ^ k
from_least (from m e h) = h

within_most : {a : ℕ} {x : Float} → Within a x → num x ≤ a * den x
within_most (within s m e h) = h

pub weaker : {a b : ℕ} {x : Float} → a ≤ b → Within a x → Within b x
weaker l (within s m e h) = within s m e (le_trans h (mul-le-mul_right (down e) l))

pub bare : {a : ℕ} {x : Float} → Within a x → Upto a (abs_of x)
unfolding abs_of
bare (within s m e h) = upto m e h

-- ---- the order of two values

crossed : (m n : ℕ) (e d : ℤ) → T (le (fin false m e) (fin false n d)) → m * up e * down d ≤ n * up d * down e
unfolding le
crossed m n e d t = let a = m * up e * down d in let b = n * up d * down e in go (ltb a b) (eqb a b) (ltb→lt a b) (eqb→eq a b) t
  where
    go : {a b : ℕ} (p q : Bool) → (T p → a < b) → (T q → a ≡ b) → T (p || q && true) → a ≤ b
    go true q h k t = le_of_lt (h tt)
    go false true h k t = le_of_eq (k tt)
    go false false h k t = absurd t

-- x / p ≤ y / q ≤ a, and 1 / c ≤ y / q ≤ x / p
below : (x y p q a : ℕ) → 0 < q → x * q ≤ y * p → y ≤ a * q → x ≤ a * p
below x y p q a Q h k = let j = mul-le-mul_right p k in le_of_mul-le-mul_right (let l : x * q ≤ a * p * q = omega arith in l) Q

above : (x y p q c : ℕ) → 0 < q → y * p ≤ x * q → q ≤ y * c → p ≤ x * c
above x y p q c Q h k = let i = mul-le-mul_right c h in let j = mul-le-mul_right p k in le_of_mul-le-mul_right (let l : p * q ≤ x * c * q = omega arith in l) Q

-- a magnitude that is at most y
pub capped : {a : ℕ} (x : Float) {y : Float} → Upto a y → T (le (abs_of x) y) → Within a x
unfolding le abs_of
capped nan (upto n d h) t = absurd t
capped (inf s) (upto n d h) t = absurd t
capped {a} (fin s m e) (upto n d h) t = within s m e (below (m * up e) (n * up d) (down e) (down d) a (down_pos d) (crossed m n e d t) h)

-- a number that is at least y
reached : {a k : ℕ} {x y : Float} → Upto a x → From k y → T (le y x) → From k x
reached {k = k} (upto m e u) (from n d h) t = from m e (above (m * up e) (n * up d) (down e) (down d) (2 ^ k) (down_pos d) (crossed n m d e t) h)

-- x / p ≤ 1 ≤ y / q
around : (x y p q : ℕ) → x ≤ 1 * p → q ≤ y * 1 → x * q ≤ y * p
around x y p q h k = let i = mul-le-mul h k in omega arith

pub ordered : {x y : Float} → Within 1 x → From 0 y → T (le (abs_of x) y)
unfolding abs_of
ordered (within s m e h) (from n d k) =
    le_of_values (fin false m e) (fin false n d) (m * up e) (down e) (n * up d) (down d) (down_pos e) (down_pos d) (refl, refl) (refl, refl) (around (m * up e) (n * up d) (down e) (down d) h k)

-- a number that y is not below
pub not_over : {a b : ℕ} {x y : Float} → Upto a y → Upto b x → lt y x ≡ false → Upto a x
unfolding lt
not_over {a} (upto n d h) (upto m e u) r = upto m e (below (m * up e) (n * up d) (down e) (down d) a (down_pos d) (ltb-false (n * up d * down e) (m * up e * down d) r) h)

-- a number that is not below t, where t is at least y
pub past : {a k : ℕ} {x y : Float} (t : Float) → Upto a x → From k y → T (le y t) → lt x t ≡ false → From k x
unfolding lt le
past nan (upto m e u) (from n d h) l r = absurd l
past (inf true) (upto m e u) (from n d h) l r = absurd l
past (inf false) (upto m e u) (from n d h) l r = absurd (true≢false r)
past {k = k} (fin true p b) (upto m e u) (from n d h) l r =
    let z : n * up d * down b ≡ 0 = eqb→eq (n * up d * down b) 0 (and_r (eqb (n * up d * down b) (p * up b * down d)) (eqb (n * up d * down b) 0) l) in
    absurd (lt_irrefl 0 (subst (λ (x : ℕ). 0 < x) z (mul-pos (first_pos (n * up d) (2 ^ k) (lt_of_lt_of_le (down_pos d) h)) (down_pos b))))
past {k = k} (fin false p b) (upto m e u) (from n d h) l r =
    from m e
    (above (m * up e) (p * up b) (down e) (down b) (2 ^ k) (down_pos b) (ltb-false (m * up e * down b) (p * up b * down e) r)
    (above (p * up b) (n * up d) (down b) (down d) (2 ^ k) (down_pos d) (crossed n p d b l) h))

-- ---- a magnitude q with a sign: that of b, by b's comparison with a zero

pub signed : {a : ℕ} {q : Float} (t : Bool) → Upto a q → Within a (cond t (neg q) q)
unfolding neg
signed true (upto m e h) = within true m e h
signed false (upto m e h) = within false m e h

pub signed_alike : {a c : ℕ} {b q z : Float} → Within a b → Upto c q → Upto 0 z → Alike b (cond (lt b z) (neg q) q)
unfolding lt neg
signed_alike (within false m e u) (upto n d h) (upto k r z) = let a = m * up e * down r in let b = k * up r * down e in go (ltb a b) (λ t. no a (k * up r) (down r) (down e) z (ltb→lt a b t))
  where
    no : (a k r x : ℕ) → k ≤ 0 * r → a < k * x → ⊥
    no a k r x h l = let i = mul-le-mul_right x h in omega arith

    go : (t : Bool) → (T t → ⊥) → Alike (fin false m e) (cond t (fin true n d) (fin false n d))
    go true h = absurd (h tt)
    go false h = alike false m n e d
signed_alike (within true m e u) (upto n d h) (upto k r z) = let a = m * up e * down r in let b = k * up r * down e in go (ltb 0 (a + b)) (λ t. none (m * up e) (down r) b (down_pos r) (nltb→le 0 (a + b) t))
  where
    none : (a r x : ℕ) → 0 < r → a * r + x ≤ 0 → a ≡ 0
    none a r x R h = let i = mul-le-mul_left a R in omega arith

    go : (t : Bool) → (T (not t) → m * up e ≡ 0) → Alike (fin true m e) (cond t (fin true n d) (fin false n d))
    go true h = alike true m n e d
    go false h = void true false m n e d (h tt)

-- ---- rounding

-- the format f holds the whole number a
abbrev pub Whole : Format → ℕ → Type 0
Whole f a = HasValue (round f false a 1) false a 1

value_upto : (x : Float) (a : ℕ) → HasValue x false a 1 → Upto a x
value_upto nan a h = absurd h
value_upto (inf s) a h = absurd h
value_upto (fin true m e) a h = absurd (true≢false h.0)
value_upto (fin false m e) a h = upto m e (le_of_eq (sym (mul-one (m * up e)) ∙ h.1))

value_from_law : (x : Float) (k : ℕ) → HasValue x false 1 (2 ^ k) → From k x
value_from_law nan k h = absurd h
value_from_law (inf s) k h = absurd h
value_from_law (fin true m e) k h = absurd (true≢false h.0)
value_from_law (fin false m e) k h = from m e (le_of_eq (sym (h.1 ∙ one-mul (down e))))

units_signless : (f : Format) (s : Bool) (q k : ℕ) → abs_of (units f s q k) ≡ units f false q k
unfolding units
units_signless f s q k = go (ltb (q * 2 ^ k) (2 ^ (low f + suc (emax f))))
  where
    go : (b : Bool) → abs_of (cond b (odd (suc (prec f)) s q k (low f)) (inf s)) ≡ cond b (odd (suc (prec f)) false q k (low f)) (inf false)
    go true = abs_odd (suc (prec f)) s q k (low f)
    go false = unfold abs_of in refl

-- the size of ±a - ±b
abbrev gap : Bool → Bool → ℕ → ℕ → ℕ
gap s t a b = cond (beq s t) (a - b + (b - a)) (a + b)

gap_le : (s t : Bool) (a b : ℕ) → gap s t a b ≤ a + b
gap_le true true a b = omega arith
gap_le true false a b = omega arith
gap_le false true a b = omega arith
gap_le false false a b = omega arith

gap_alike : (s : Bool) (a b k : ℕ) → a ≤ k → b ≤ k → gap s s a b ≤ k
gap_alike true a b k h l = omega arith
gap_alike false a b k h l = omega arith

gap_swap : (s t : Bool) (a b : ℕ) → gap s t a b ≡ gap t s b a
gap_swap true true a b = omega arith
gap_swap true false a b = omega arith
gap_swap false true a b = omega arith
gap_swap false false a b = omega arith

-- `twice_root n` is at most twice every k with n ≤ k * k
twice_le : (n k : ℕ) → n ≤ k * k → twice_root n ≤ 2 * k
unfolding twice_root
twice_le n k h = let s = isqrt n in go s (eqb (s * s) n) (isqrt_floor n).low (λ t. lt_of_le-ne (isqrt_floor n).low (λ e. T_not (eqb (s * s) n) t (eq→eqb e)))
  where
    go : (s : ℕ) (b : Bool) → s * s ≤ n → (T (not b) → s * s < n) → 2 * s + cond b 0 1 ≤ 2 * k
    go s true l z = let g : s < suc k = sq_lt_back s (suc k) (omega arith) in omega arith
    go s false l z = let i = z tt in let g : s < k = sq_lt_back s k (omega arith) in omega arith

module _ (f : Format) where
  -- the magnitude of what a fraction rounds to does not turn on the sign
  round_signless : (s : Bool) (n d : ℕ) → abs_of (round f s n d) ≡ round f false n d
  round_signless s n d = ap abs_of (round_is f s n d) ∙ units_signless f s _ _ ∙ sym (round_is f false n d)

  round_within : (s : Bool) (n d a : ℕ) → Whole f a → 0 < d → n ≤ a * d → Within a (round f s n d)
  round_within s n d a w D h =
      capped (round f s n d) (value_upto (round f false a 1) a w)
      (subst (λ (x : Float). T (le x (round f false a 1))) (sym (round_signless s n d)) (round_mono f n d a 1 D (pow_pos 0) (le_trans (le_of_eq (mul-one n)) h)))

  round_upto : (n d a : ℕ) → Whole f a → 0 < d → n ≤ a * d → Upto a (round f false n d)
  round_upto n d a w D h = rw (round_signless false n d) at (bare (round_within false n d a w D h))

  round_from : {a : ℕ} (n d k : ℕ) → k ≤ low f → 0 < d → d ≤ n * 2 ^ k → Upto a (round f false n d) → From k (round f false n d)
  round_from n d k l D h u = reached u (value_from_law (round f false 1 (2 ^ k)) k part) (round_mono f 1 (2 ^ k) n d (pow_pos k) D (le_trans (le_of_eq (one-mul d)) h))
    where
      room : (l k e : ℕ) → l - k < l + suc e
      room l k e = omega arith

      part : HasValue (round f false 1 (2 ^ k)) false 1 (2 ^ k)
      part =
          round_exact f false 1 (2 ^ k) 1 (low f - k) (pow_pos k) (pow-lt (two-le_pos (prec f) (two f)))
          (subst (λ (x : ℕ). x < 2 ^ (low f + suc (emax f))) (sym (one-mul (2 ^ (low f - k)))) (pow-lt (room (low f) k (emax f))))
          (one-mul (2 ^ low f) ∙ ap (λ (x : ℕ). 2 ^ x) (sym (back (low f) k l)) ∙ pow-add 2 (low f - k) k ∙ ap (λ (x : ℕ). x * 2 ^ k) (sym (one-mul (2 ^ (low f - k)))))

  pub whole_power : (k : ℕ) → k ≤ emax f → Whole f (2 ^ k)
  whole_power k h =
      round_exact f false (2 ^ k) 1 1 (k + low f) (pow_pos 0) (pow-lt (two-le_pos (prec f) (two f)))
      (subst (λ (x : ℕ). x < 2 ^ (low f + suc (emax f))) (sym (one-mul (2 ^ (k + low f)))) (pow-lt (room k (low f) (emax f) h)))
      (sym (mul-one (1 * 2 ^ (k + low f)) ∙ one-mul (2 ^ (k + low f)) ∙ pow-add 2 k (low f)))
    where
      room : (k l e : ℕ) → k ≤ e → k + l < l + suc e
      room k l e h = omega arith

  -- ---- sums

  -- a - b, for b ≤ a
  sum_down : (a b c : ℕ) → b ≤ a → sum f false a true b c ≡ round f false (a - b) c
  unfolding sum
  sum_down a b c h = go (ltb a b) (ltb→lt a b)
    where
      go : (t : Bool) → (T t → a < b) → cond t (round f true (b - a) c) (round f false (a - b) c) ≡ round f false (a - b) c
      go true k = absurd (not-le_of_lt (k tt) h)
      go false k = refl

  sum_none : (a b c : ℕ) → b ≡ 0 → sum f false a true b c ≡ round f false (a + b) c
  sum_none a b c z = sum_down a b c (omega arith) ∙ ap (λ (n : ℕ). round f false n c) (let e : a - b ≡ a + b = omega arith in e)

  add_is : {a b : ℕ} {x y : Float} → Upto a x → Level b y → add f x y ≡ round f false (num x * den y + num y * den x) (den x * den y)
  unfolding add
  add_is (upto m e h) (signless n d k) = refl
  add_is (upto m e h) (nought false n d z) = refl
  add_is (upto m e h) (nought true n d z) = sum_none (m * up e * down d) (n * up d * down e) (down e * down d) (ap (λ (x : ℕ). x * down e) z ∙ zero-mul (down e))

  module _ {a b : ℕ} {x y : Float} (w : Whole f (a + b)) (u : Upto a x) (l : Level b y) where
    rounded_upto : Upto (a + b) (round f false (num x * den y + num y * den x) (den x * den y))
    rounded_upto =
        let i = mul-le-mul_right (den y) (level_most (level u)) in
        let j = mul-le-mul_right (den x) (level_most l) in
        round_upto (num x * den y + num y * den x) (den x * den y) (a + b) w (mul-pos (den_pos x) (den_pos y)) (omega arith)

    pub add_upto : Upto (a + b) (add f x y)
    add_upto = rw (add_is u l) rounded_upto

    pub add_from : (k : ℕ) → k ≤ low f → (From k x) ⊎ (From k y) → From k (add f x y)
    add_from k r h = rw (add_is u l) (round_from (num x * den y + num y * den x) (den x * den y) k r (mul-pos (den_pos x) (den_pos y)) (join h) rounded_upto)
      where
        join : (From k x) ⊎ (From k y) → den x * den y ≤ (num x * den y + num y * den x) * 2 ^ k
        join (inl h) = let i = mul-le-mul_right (den y) (from_least h) in omega arith
        join (inr h) = let i = mul-le-mul_right (den x) (from_least h) in omega arith

  -- ---- products

  product : (m n : ℕ) (e d : ℤ) (a b : ℕ) → Whole f (a * b) → m * up e ≤ a * down e → n * up d ≤ b * down d → Upto (a * b) (round f false (m * up e * (n * up d)) (down e * down d))
  product m n e d a b w h k = round_upto (m * up e * (n * up d)) (down e * down d) (a * b) w (mul-pos (down_pos e) (down_pos d)) (le_trans (mul-le-mul h k) (le_of_eq (mul-mul-mul_comm a (down e) b (down d))))

  pub mul_upto : {a b : ℕ} {x y : Float} → Whole f (a * b) → Upto a x → Upto b y → Upto (a * b) (mul f x y)
  unfolding mul
  mul_upto {a} {b} w (upto m e h) (upto n d k) = product m n e d a b w h k

  pub mul_from : {c j k : ℕ} {x y : Float} → j + k ≤ low f → From j x → From k y → Upto c (mul f x y) → From (j + k) (mul f x y)
  unfolding mul
  mul_from {j = j} {k = k} r (from m e h) (from n d l) u =
      round_from (m * up e * (n * up d)) (down e * down d) (j + k) r (mul-pos (down_pos e) (down_pos d))
      (le_trans (mul-le-mul h l) (le_of_eq (mul-mul-mul_comm (m * up e) (2 ^ j) (n * up d) (2 ^ k) ∙ ap (λ (x : ℕ). m * up e * (n * up d) * x) (sym (pow-add 2 j k))))) u

  -- a number times itself
  pub square_is : {a : ℕ} {x : Float} → Within a x → mul f x x ≡ mul f (abs_of x) (abs_of x)
  unfolding mul abs_of
  square_is (within true m e h) = refl
  square_is (within false m e h) = refl

  -- a product of numbers of one sign is not below zero
  pub mul_alike : {a b : ℕ} {x y : Float} → Whole f (a * b) → Alike x y → Within a x → Within b y → Level (a * b) (mul f x y)
  unfolding mul
  mul_alike {a} {b} w (alike true m n e d) h k = level (product m n e d a b w (within_most h) (within_most k))
  mul_alike {a} {b} w (alike false m n e d) h k = level (product m n e d a b w (within_most h) (within_most k))
  mul_alike {a} {b} w (void s t m n e d z) h k =
      nothing (round_within (unlike s t) (m * up e * (n * up d)) (down e * down d) 0 (round_whole f false 0 zero-le) (mul-pos (down_pos e) (down_pos d)) (le_trans (le_of_eq (ap (λ (x : ℕ). x * (n * up d)) z ∙ zero-mul (n * up d))) zero-le))
    where
      nothing : {c : ℕ} {x : Float} → Within 0 x → Level c x
      nothing (within s m e h) = nought s m e (le-zero (le_trans h (le_of_eq (zero-mul (down e)))))

  -- ---- quotients

  div_is : {k : ℕ} (s : Bool) (m : ℕ) (e : ℤ) {y : Float} → From k y → div f (fin s m e) y ≡ round f (unlike s false) (m * up e * den y) (num y * down e)
  unfolding div
  div_is {k} s m e (from n d h) = ap (λ (b : Bool). cond b (cond (eqb m 0) nan (inf (unlike s false))) (round f (unlike s false) (m * up e * down d) (n * up d * down e))) (ne_eqb n 0 some)
    where
      some : n ≡ 0 → ⊥
      some z = lt_irrefl 0 (subst (λ (x : ℕ). 0 < x) z (first_pos n (up d) (first_pos (n * up d) (2 ^ k) (lt_of_lt_of_le (down_pos d) h))))

  module _ {k : ℕ} {y : Float} (l : From k y) where
    divisor_pos : 0 < num y
    divisor_pos = first_pos (num y) (2 ^ k) (lt_of_lt_of_le (den_pos y) (from_least l))

    quotient : (m : ℕ) (e : ℤ) (a : ℕ) → m * up e ≤ a * down e → m * up e * den y ≤ a * 2 ^ k * (num y * down e)
    quotient m e a h = let j = mul-le-mul h (from_least l) in omega arith

    pub div_upto : {a : ℕ} {x : Float} → Whole f (a * 2 ^ k) → Upto a x → Upto (a * 2 ^ k) (div f x y)
    div_upto {a} w (upto m e h) = rw (div_is false m e l) (round_upto (m * up e * den y) (num y * down e) (a * 2 ^ k) w (mul-pos divisor_pos (down_pos e)) (quotient m e a h))

    pub div_within : {a : ℕ} {x : Float} → Whole f (a * 2 ^ k) → Within a x → Within (a * 2 ^ k) (div f x y)
    div_within {a} w (within s m e h) = rw (div_is s m e l) (round_within (unlike s false) (m * up e * den y) (num y * down e) (a * 2 ^ k) w (mul-pos divisor_pos (down_pos e)) (quotient m e a h))

  -- ---- differences

  apart : (p q : Bool) (a b c : ℕ) → (r : Bool) × (cond (ltb a b) (round f p (b - a) c) (round f q (a - b) c) ≡ round f r (a - b + (b - a)) c)
  apart p q a b c = go (ltb a b) (ltb→lt a b) (nltb→le a b)
    where
      go : (t : Bool) → (T t → a < b) → (T (not t) → b ≤ a) → (r : Bool) × (cond t (round f p (b - a) c) (round f q (a - b) c) ≡ round f r (a - b + (b - a)) c)
      go true h k = let l = h tt in let e : b - a ≡ a - b + (b - a) = omega arith in (p, ap (λ (n : ℕ). round f p n c) e)
      go false h k = let l = k tt in let e : a - b ≡ a - b + (b - a) = omega arith in (q, ap (λ (n : ℕ). round f q n c) e)

  sum_gap : (s t : Bool) (a b c : ℕ) → (r : Bool) × (sum f s a (not t) b c ≡ round f r (gap s t a b) c)
  unfolding sum
  sum_gap true false a b c = (true, refl)
  sum_gap false true a b c = (false, refl)
  sum_gap true true a b c = apart false (ltb b a) a b c
  sum_gap false false a b c = apart true false a b c

  sub_gap : (s t : Bool) (m n : ℕ) (e d : ℤ) → (r : Bool) × (sub f (fin s m e) (fin t n d) ≡ round f r (gap s t (m * up e * down d) (n * up d * down e)) (down e * down d))
  unfolding sub
  sub_gap s t m n e d = sum_gap s t (m * up e * down d) (n * up d * down e) (down e * down d)

  sub_by : (s t : Bool) (m n : ℕ) (e d : ℤ) (a : ℕ) → Whole f a → gap s t (m * up e * down d) (n * up d * down e) ≤ a * (down e * down d) → Within a (sub f (fin s m e) (fin t n d))
  sub_by s t m n e d a w h = let q = sub_gap s t m n e d in rw q.1 (round_within q.0 (gap s t (m * up e * down d) (n * up d * down e)) (down e * down d) a w (mul-pos (down_pos e) (down_pos d)) h)

  pub sub_within : {a b : ℕ} {x y : Float} → Whole f (a + b) → Within a x → Within b y → Within (a + b) (sub f x y)
  sub_within {a} {b} w (within s m e h) (within t n d k) =
      let i = mul-le-mul_right (down d) h in
      let j = mul-le-mul_right (down e) k in
      sub_by s t m n e d (a + b) w (le_trans (gap_le s t (m * up e * down d) (n * up d * down e)) (omega arith))

  -- of numbers of one sign
  pub sub_alike : {a : ℕ} {x y : Float} → Whole f a → Alike x y → Within a x → Within a y → Within a (sub f x y)
  sub_alike {a} w (alike s m n e d) h k =
      let i = mul-le-mul_right (down d) (within_most h) in
      let j = mul-le-mul_right (down e) (within_most k) in
      sub_by s s m n e d a w (gap_alike s (m * up e * down d) (n * up d * down e) (a * (down e * down d)) (omega arith) (omega arith))
  sub_alike {a} w (void s t m n e d z) h k =
      let i : m * up e * down d ≡ 0 = ap (λ (x : ℕ). x * down d) z ∙ zero-mul (down d) in
      let j = mul-le-mul_right (down e) (within_most k) in
      sub_by s t m n e d a w (le_trans (gap_le s t (m * up e * down d) (n * up d * down e)) (omega arith))

  -- x - y and y - x are of one size
  pub sub_swap : {a b : ℕ} {x y : Float} → Within a x → Within b y → abs_of (sub f x y) ≡ abs_of (sub f y x)
  sub_swap (within s m e h) (within t n d k) =
      let p = sub_gap s t m n e d in
      let q = sub_gap t s n m d e in
      let u = gap s t (m * up e * down d) (n * up d * down e) in
      let v = gap t s (n * up d * down e) (m * up e * down d) in
      ap abs_of p.1
      ∙ round_signless p.0 u (down e * down d)
      ∙ ap (λ (n : ℕ). round f false n (down e * down d)) (gap_swap s t (m * up e * down d) (n * up d * down e))
      ∙ ap (λ (c : ℕ). round f false v c) (mul_comm (down e) (down d))
      ∙ sym (ap abs_of q.1 ∙ round_signless q.0 v (down d * down e))

  -- x - y for y ≤ 1 ≤ x
  pub sub_upto : {a : ℕ} {x y : Float} → Whole f a → Upto a x → From 0 x → Upto 1 y → Upto a (sub f x y)
  unfolding sub
  sub_upto {a} w (upto m e h) l (upto n d k) =
      let i = mul-le-mul_right (down d) h in
      let j : n * up d * down e ≤ m * up e * down d = around (n * up d) (m * up e) (down d) (down e) k (from_least l) in
      rw sum_down (round_upto (m * up e * down d - n * up d * down e) (down e * down d) a w (mul-pos (down_pos e) (down_pos d)) (omega arith))

  -- ---- roots

  pub root_upto : {a : ℕ} {x : Float} (h : ℕ) → Whole f h → a ≤ h * h → Upto a x → Upto h (root_of f x)
  unfolding root_of
  root_upto h w k (upto zero e u) = upto 0 e (le_trans (le_of_eq (zero-mul (up e))) zero-le)
  root_upto {a} h w k (upto (suc m) e u) =
      let L = 2 ^ low f in
      let c = count f (fin false (suc m) e) in
      let n : c * L ≤ h * L * (h * L) = under (suc m * up e) (down e) L (down_pos e) (le_trans u (mul-le-mul_right (down e) k)) in
      round_upto (twice_root (c * L)) (2 * L) h w (mul-pos (pow_pos 1) (pow_pos (low f))) (le_trans (twice_le (c * L) (h * L) n) (le_of_eq (mul_left_comm 2 h L)))
    where
      under : (a d L : ℕ) → 0 < d → a ≤ h * h * d → a * L / d * L ≤ h * L * (h * L)
      under a d L D l =
          let q = div-mul-le_self (a * L) d in
          let i = mul-le-mul_right L l in
          let j : a * L / d ≤ h * h * L = le_of_mul-le-mul_right (le_trans q (let k : a * L ≤ h * h * L * d = omega arith in k)) D in
          le_trans (mul-le-mul_right L j) (le_of_eq (let k : h * h * L * L ≡ h * L * (h * L) = omega arith in k))
