-- `round` gives the value closest to a fraction (`round_closest`), there is no other (`only_closest`), and a minus sign passes through it (`neg_round`).
use mathlib.Core.Path.{◌≡◌, refl, sym, ap, ◌∙◌, subst}
use mathlib.Core.Logic.{◌⊎◌, inl, inr}
use Prim.Native.Nat.{ℕ, zero, suc, ◌+◌, ◌-◌, ◌*◌, ◌/◌, ◌%◌, ◌^◌, ◌≤◌, ◌<◌, compare, Ordering}
use mathlib.Core.Bool.{Bool, true, false, not, cond, true≢false}
use native.Mathlib.Nat.{le_trans, le_of_eq, le_of_lt, le_antisymm, le_of_suc-le-suc, lt_of_lt_of_le, lt_of_le_of_lt, lt_of_not-le, not-le_of_lt, lt_irrefl, eq-or-lt_of_le, zero-lt-suc, mul_assoc, mul-one, mul-pos, mul-le-mul_right, div-add-mod', mod-lt, le-div_iff_mul-le, div-div-eq-div-mul, add_assoc, mul-lt-mul_of_pos_right, zero-mul, div-le_self, lt-suc_self, le-suc, lt_of_mul-lt-mul_right, le_of_mul-le-mul_right}
use native.Mathlib.Decide.{dec_le, ℕ_discrete}
use native.Mathlib.Omega.{arith}
use lib.IntN.{ℤ, pos}
use lib.Dec.{T, ltb, lit<}
use lib.Pow.{pow-add, pow_pos, pow_mono, pow-lt, shl_lt}
use lib.Ieee.{Float, nan, inf, fin, Format, binary32, binary64, prec, emax, low, hid, top, up, down, div, of_int, size, nearest, odd, units, round, neg, fits, to_bits, of_bits}
use lib.Ieee.Digits.{size-lt, size-le, size_reaches, back}
use lib.Ieee.Fits.{down_pos, two, odd-fits, round_is, round-fits, nearest-le, kept-lt}
use lib.Ieee.Exact.{HasValue, units_val, odd_sign}
use lib.Ieee.Bits.{of_bits-to_bits}
use lib.Ieee.Back.{round_whole}
use lib.Ieee.Scale.{round_same}
use borrow.Author.Tests.{ne_eqb}
use lib.Ieee.Nearest.{closest, nearest-ge}
use Rattle.real.specs.Root.{count}
use Rattle.real.proofs.Rounding.{Cmp, cmp, count_is}
use Rattle.real.proofs.Patterns.{pattern_of, pattern_is}
use Rattle.real.proofs.Nearest.{Shape, any_shape, next_above, next_below}
use Rattle.numeral.specs.Closest.{gap, Signed, away, Closest}

-- ---- n / u to the nearest whole number q, a tie to the even one

record Half (n u q : ℕ) : Type 0 where
  pub over : 2 * n ≤ 2 * (q * u) + u
  pub under : 2 * (q * u) ≤ 2 * n + u
  pub tie_over : 2 * n ≡ 2 * (q * u) + u → q % 2 ≡ 0
  pub tie_under : 2 * (q * u) ≡ 2 * n + u → q % 2 ≡ 0

half_of : (w r u n : ℕ) (o : Ordering) → Cmp o (r * 2) u → r < u → w * u + r ≡ n → Half n u (nearest w o)
half_of w r u n Ordering.lt c l e = record { over = omega arith; under = omega arith; tie_over = λ t. omega arith; tie_under = λ t. omega arith }
half_of w r u n Ordering.gt c l e = record { over = omega arith; under = omega arith; tie_over = λ t. omega arith; tie_under = λ t. omega arith }
half_of w r u n Ordering.eq c l e = record { over = omega (arith, up); under = omega (arith, down); tie_over = λ t. even w; tie_under = λ t. even w }
  where
    even : (w : ℕ) → (w + w % 2) % 2 ≡ 0
    even w = omega arith

    up : w * u ≤ (w + w % 2) * u
    up = mul-le-mul_right u (omega arith)

    down : (w + w % 2) * u ≤ w * u + u
    down = le_trans (mul-le-mul_right u (omega arith)) (le_of_eq (one w u))
      where
        one : (w u : ℕ) → (w + 1) * u ≡ w * u + u
        one w u = omega arith

half : (n u : ℕ) → 0 < u → Half n u (closest n u)
half n u U = half_of (n / u) (n % u) u n (compare (n % u * 2) u) (cmp (n % u * 2) u) (mod-lt n U) (div-add-mod' n u)

-- ---- a value y is farther than q * w, all in units, w being 2 ^ k; A, U and Y stand for q * w * den, w * den and y * den

above_far : (n A U Y : ℕ) → 0 < U → 2 * n ≤ 2 * A + U → 2 * A ≤ 2 * n + U → A + U ≤ Y → (gap n A ≤ gap n Y) × (gap n Y ≡ gap n A → 2 * n ≡ 2 * A + U)
above_far n A U Y h a b c = (omega arith, λ e. omega arith)

below_far : (n A U Y : ℕ) → 0 < U → 2 * n ≤ 2 * A + U → 2 * A ≤ 2 * n + U → Y + U ≤ A → (gap n A ≤ gap n Y) × (gap n Y ≡ gap n A → 2 * A ≡ 2 * n + U)
below_far n A U Y h a b c = (omega arith, λ e. omega arith)

past_far : (n A Y : ℕ) → A ≤ n → Y < A → (gap n A ≤ gap n Y) × (gap n Y ≡ gap n A → ⊥)
past_far n A Y a b = (omega arith, λ e. omega arith)

-- ---- the pattern of q * 2 ^ k, where q has all the format's digits or k is 0

Full : Format → ℕ → ℕ → Type 0
Full f q k = (k ≡ 0) ⊎ (hid f ≤ q)

pattern_all : (f : Format) (q k : ℕ) → q ≤ 2 ^ prec f → Full f q k → pattern_of f (q * 2 ^ k) ≡ k * hid f + q
unfolding Full
pattern_all f q k m (inr l) = pattern_is f q k l m
pattern_all f q k m (inl e) = elim (dec_le (hid f) q) [
  | yes l ↦ pattern_is f q k l m
  | no g ↦
      let w : q * 2 ^ k ≡ q = ap (λ (x : ℕ). q * 2 ^ x) e ∙ mul-one q in
      let z : size q - prec f ≡ 0 = none (size q) (prec f) (size-le q (prec f - 1) (lt_of_not-le g)) in
      ap (pattern_of f) w ∙ ap (λ (x : ℕ). x * hid f + q / 2 ^ x) z ∙ least (hid f) q ∙ ap (λ (x : ℕ). x * hid f + q) (sym e)
]
  where
    none : (z p : ℕ) → z ≤ p - 1 → z - p ≡ 0
    none z p h = omega arith

    least : (h q : ℕ) → 0 * h + q / 1 ≡ 0 * h + q
    least h q = omega arith

-- of a value with a sign, by its size
bits_by_count : (f : Format) (s : Bool) (x : Float) → Signed s x → to_bits f x ≡ cond s (top f) 0 + (size (count f x) - prec f) * hid f + count f x / 2 ^ (size (count f x) - prec f)
unfolding to_bits count
bits_by_count f s nan h = absurd h
bits_by_count f s (inf t) h = absurd h
bits_by_count f s (fin t m e) h = ap (λ (b : Bool). to_bits f (fin b m e)) h

top_even : (f : Format) (s : Bool) → (cond s (top f) 0) % 2 ≡ 0
top_even binary32 true = refl
top_even binary32 false = refl
top_even binary64 true = refl
top_even binary64 false = refl

hid_even : (f : Format) → hid f ≡ 2 * (hid f / 2)
hid_even binary32 = refl
hid_even binary64 = refl

parity : (t k h g q : ℕ) → t % 2 ≡ 0 → h ≡ 2 * g → (t + (k * h + q)) % 2 ≡ q % 2
parity t k h g q a b = let e : k * h ≡ 2 * (k * g) = ap (λ (x : ℕ). k * x) b ∙ twice k g in omega arith
  where
    twice : (k g : ℕ) → k * (2 * g) ≡ 2 * (k * g)
    twice k g = omega arith

-- a value of q * 2 ^ k units has an even pattern where q is even
bits_parity : (f : Format) (s : Bool) (x : Float) (q k : ℕ) → Signed s x → count f x ≡ q * 2 ^ k → q ≤ 2 ^ prec f → Full f q k → to_bits f x % 2 ≡ q % 2
bits_parity f s x q k h c m l =
    let t = cond s (top f) 0 in
    ap (λ (b : ℕ). b % 2)
    (bits_by_count f s x h ∙ add_assoc t ((size (count f x) - prec f) * hid f) (count f x / 2 ^ (size (count f x) - prec f)) ∙ ap (λ (b : ℕ). t + b) (ap (pattern_of f) c ∙ pattern_all f q k m l))
    ∙ parity t k (hid f) (hid f / 2) q (top_even f s) (hid_even f)

-- ---- a value y other than q * 2 ^ k: a whole step above it, or below it, or below it where the fraction is not

Sides : ℕ → ℕ → ℕ → ℕ → ℕ → Type 0
Sides n u q w y = (q * w + w ≤ y) ⊎ ((y + w ≤ q * w) ⊎ ((y < q * w) × (q * u ≤ n)))

next : (q w : ℕ) → suc q * w ≡ q * w + w
next q w = omega arith

sides_whole : (n u q k y : ℕ) → k ≡ 0 → (y ≡ q * 2 ^ k → ⊥) → Sides n u q (2 ^ k) y
unfolding Sides
sides_whole n u q k y e d =
    let w : 2 ^ k ≡ 1 = ap (λ (x : ℕ). 2 ^ x) e in
    let a : q * 2 ^ k ≡ q = ap (λ (x : ℕ). q * x) w ∙ mul-one q in
    elim (dec_le y q) [ yes l ↦ inr (inl (omega arith)) | no g ↦ let h = lt_of_not-le g in inl (omega arith) ]

module _ (f : Format) (n u q k y my jy : ℕ) (sh : Shape f y my jy) (lo : hid f ≤ q) (reach : hid f * u ≤ n) where
  over : q * 2 ^ k < y → q * 2 ^ k + 2 ^ k ≤ y
  over l = le_trans (le_of_eq (sym (next q (2 ^ k)))) (subst (λ (x : ℕ). suc q * 2 ^ k ≤ x) (sym sh.units) (next_above f my jy k q sh.digits lo (subst (λ (x : ℕ). q * 2 ^ k < x) sh.units l)))

under : (f : Format) (n u q k y my jy : ℕ) → Shape f y my jy → hid f ≤ q → hid f * u ≤ n → y < q * 2 ^ k → (y + 2 ^ k ≤ q * 2 ^ k) ⊎ ((y < q * 2 ^ k) × (q * u ≤ n))
under f n u zero k y my jy sh lo reach l = absurd (not-le_of_lt (pow_pos (prec f - 1)) lo)
under f n u (suc q) k y my jy sh lo reach l = elim (eq-or-lt_of_le lo) [
  | inl e ↦ inr (l, subst (λ (x : ℕ). x * u ≤ n) e reach)
  | inr g ↦
      let b = subst (λ (x : ℕ). x ≤ q * 2 ^ k) (sym sh.units) (next_below f my jy k q sh.digits (le_of_suc-le-suc g) (subst (λ (x : ℕ). x < suc q * 2 ^ k) sh.units l)) in
      let s = next q (2 ^ k) in
      inl (omega arith)
]

sides_full : (f : Format) (n u q k y my jy : ℕ) → Shape f y my jy → hid f ≤ q → hid f * u ≤ n → (y ≡ q * 2 ^ k → ⊥) → Sides n u q (2 ^ k) y
unfolding Sides
sides_full f n u q k y my jy sh lo reach d = elim (dec_le y (q * 2 ^ k)) [
  | yes l ↦ elim (eq-or-lt_of_le l) [ inl e ↦ absurd (d e) | inr g ↦ inr (under f n u q k y my jy sh lo reach g) ]
  | no g ↦ inl (over f n u q k y my jy sh lo reach (lt_of_not-le g))
]

-- so it is no nearer, and as near only where q is even
farther : (n den q w y : ℕ) → 0 < den * w → Half n (den * w) q → Sides n (den * w) q w y → (gap n (q * w * den) ≤ gap n (y * den)) × (gap n (y * den) ≡ gap n (q * w * den) → q % 2 ≡ 0)
unfolding Sides
farther n den q w y U h s =
    let A : q * (den * w) ≡ q * w * den = turn q den w in
    let o : 2 * n ≤ 2 * (q * w * den) + den * w = subst (λ (x : ℕ). 2 * n ≤ 2 * x + den * w) A h.over in
    let b : 2 * (q * w * den) ≤ 2 * n + den * w = subst (λ (x : ℕ). 2 * x ≤ 2 * n + den * w) A h.under in
    elim s [
      | inl l ↦
          let r = above_far n (q * w * den) (den * w) (y * den) U o b (le_trans (le_of_eq (spread (q * w) w den)) (mul-le-mul_right den l)) in
          (r.0, λ e. h.tie_over (r.1 e ∙ ap (λ (x : ℕ). 2 * x + den * w) (sym A)))
      | inr t ↦ elim t [
        | inl l ↦
            let r = below_far n (q * w * den) (den * w) (y * den) U o b (le_trans (le_of_eq (spread y w den)) (mul-le-mul_right den l)) in
            (r.0, λ e. h.tie_under (ap (λ (x : ℕ). 2 * x) A ∙ r.1 e))
        | inr p ↦
            let r = past_far n (q * w * den) (y * den) (le_trans (le_of_eq (sym A)) p.1) (mul-lt-mul_of_pos_right p.0 (first den w U)) in
            (r.0, λ e. absurd (r.1 e))
      ]
    ]
  where
    turn : (q den w : ℕ) → q * (den * w) ≡ q * w * den
    turn q den w = omega arith

    spread : (a w den : ℕ) → a * den + den * w ≡ (a + w) * den
    spread a w den = omega arith

    first : (den w : ℕ) → 0 < den * w → 0 < den
    first zero w h = absurd (lt_irrefl 0 (subst (λ (x : ℕ). 0 < x) (zero-mul w) h))
    first (suc den) w h = zero-lt-suc den

-- ---- the theorem

module _ (f : Format) (s : Bool) (num den : ℕ) (D : 0 < den) (small : num ≤ 2 ^ prec f) where
  abbrev n : ℕ
  n = num * 2 ^ low f

  abbrev k : ℕ
  k = size (n / den) - prec f

  abbrev q : ℕ
  q = closest n (den * 2 ^ k)

  U : 0 < den * 2 ^ k
  U = mul-pos D (pow_pos k)

  part : n / (den * 2 ^ k) < 2 ^ prec f
  part = subst (λ (x : ℕ). x < 2 ^ prec f) (div-div-eq-div-mul n den (2 ^ k)) (kept-lt (prec f) (n / den))

  q_le : q ≤ 2 ^ prec f
  q_le = le_trans (nearest-le (n / (den * 2 ^ k)) (compare (n % (den * 2 ^ k) * 2) (den * 2 ^ k))) part

  k_le : k ≤ suc (low f)
  k_le =
      let a : n ≤ 2 ^ (prec f + low f) = le_trans (mul-le-mul_right (2 ^ low f) small) (le_of_eq (sym (pow-add 2 (prec f) (low f)))) in
      let b : n / den < 2 ^ suc (prec f + low f) = lt_of_le_of_lt (le_trans (div-le_self n den) a) (pow-lt (lt-suc_self (prec f + low f))) in
      cut (size (n / den)) (prec f) (low f) (size-le (n / den) (suc (prec f + low f)) b)
    where
      cut : (z p l : ℕ) → z ≤ suc (p + l) → z - p ≤ suc l
      cut z p l h = omega arith

  finite : q * 2 ^ k < 2 ^ (low f + suc (emax f))
  finite = lt_of_le_of_lt (mul-le-mul_right (2 ^ k) q_le) (lt_of_le_of_lt (le_of_eq (sym (pow-add 2 (prec f) k))) (pow-lt (shift (prec f) k (suc (low f)) (low f + suc (emax f)) k_le (room f))))
    where
      shift : (p k l m : ℕ) → k ≤ l → p + l < m → p + k < m
      shift p k l m a b = omega arith

      room : (f : Format) → prec f + suc (low f) < low f + suc (emax f)
      room binary32 = lit< tt
      room binary64 = lit< tt

  value : HasValue (round f s num den) s (q * 2 ^ k) (2 ^ low f)
  value = subst (λ (x : Float). HasValue x s (q * 2 ^ k) (2 ^ low f)) (sym (round_is f s num den)) (units_val f s q k finite)

  full : Full f q k × ((k ≡ 0) ⊎ (hid f * (den * 2 ^ k) ≤ n))
  unfolding Full
  full = elim (dec_le (size (n / den)) (prec f)) [
    | yes l ↦ let e : k ≡ 0 = none (size (n / den)) (prec f) l in (inl e, inl e)
    | no g ↦
        let z : prec f - 1 + k < size (n / den) = more (size (n / den)) (prec f) (two f) (lt_of_not-le g) in
        let a : hid f * 2 ^ k ≤ n / den = le_trans (le_of_eq (sym (pow-add 2 (prec f - 1) k))) (size_reaches (n / den) (prec f - 1 + k) z) in
        let b : hid f ≤ n / (den * 2 ^ k) = subst (λ (x : ℕ). hid f ≤ x) (div-div-eq-div-mul n den (2 ^ k)) ((le-div_iff_mul-le (pow_pos k)).1 a) in
        (inr (le_trans b (nearest-ge (n / (den * 2 ^ k)) (compare (n % (den * 2 ^ k) * 2) (den * 2 ^ k)))), inr ((le-div_iff_mul-le U).0 b))
  ]
    where
      none : (z p : ℕ) → z ≤ p → z - p ≡ 0
      none z p h = omega arith

      more : (z p : ℕ) → 2 ≤ p → p < z → p - 1 + (z - p) < z
      more z p t h = omega arith

  sides : (y my jy : ℕ) → Shape f y my jy → (y ≡ q * 2 ^ k → ⊥) → Sides n (den * 2 ^ k) q (2 ^ k) y
  unfolding Full
  sides y my jy sh d = elim full.1 [
    | inl e ↦ sides_whole n (den * 2 ^ k) q k y e d
    | inr r ↦ elim full.0 [ inl e ↦ sides_whole n (den * 2 ^ k) q k y e d | inr lo ↦ sides_full f n (den * 2 ^ k) q k y my jy sh lo r d ]
  ]

  signed : Signed s (round f s num den)
  signed = of_value (round f s num den) (q * 2 ^ k) (2 ^ low f) value
    where
      of_value : (x : Float) (a c : ℕ) → HasValue x s a c → Signed s x
      of_value nan a c v = v
      of_value (inf t) a c v = v
      of_value (fin t m e) a c v = v.0

  units_are : count f (round f s num den) ≡ q * 2 ^ k
  units_are = count_is f (round f s num den) s (q * 2 ^ k) value

  away_is : away f num den (round f s num den) ≡ gap n (q * 2 ^ k * den)
  away_is = ap (λ (x : ℕ). gap n (x * den)) units_are

  other : (y : Float) → T (fits f y) → (count f y ≡ q * 2 ^ k → ⊥) → (gap n (q * 2 ^ k * den) ≤ away f num den y) × (away f num den y ≡ gap n (q * 2 ^ k * den) → q % 2 ≡ 0)
  other y t d = let z = any_shape f y t in farther n den q (2 ^ k) (count f y) U (half n (den * 2 ^ k) U) (sides (count f y) z.0 z.1 z.2 d)

  pub round_closest : Closest f s num den (round f s num den)
  round_closest =
      record {
        held = round-fits f s num den;
        sign = signed;
        near = λ y t. le_trans (le_of_eq away_is) (no_nearer y t (ℕ_discrete (count f y) (q * 2 ^ k)));
        even = λ y t d e. bits_parity f s (round f s num den) q k signed units_are q_le full.0 ∙ (other y t (λ g. d (g ∙ sym units_are))).1 (e ∙ away_is);
      }
    where
      no_nearer : (y : Float) → T (fits f y) → Dec (count f y ≡ q * 2 ^ k) → gap n (q * 2 ^ k * den) ≤ away f num den y
      no_nearer y t (yes e) = le_of_eq (ap (λ (x : ℕ). gap n (x * den)) (sym e))
      no_nearer y t (no d) = (other y t d).0

-- ---- no other value is the closest

-- a value by its sign and its size
same_value : (f : Format) (s : Bool) (x y : Float) → T (fits f x) → T (fits f y) → Signed s x → Signed s y → count f x ≡ count f y → x ≡ y
same_value f s x y t u a b e =
    sym (of_bits-to_bits f x t)
    ∙ ap (of_bits f) (bits_by_count f s x a ∙ ap (λ (c : ℕ). cond s (top f) 0 + (size c - prec f) * hid f + c / 2 ^ (size c - prec f)) e ∙ sym (bits_by_count f s y b))
    ∙ of_bits-to_bits f y u

-- a value is q * 2 ^ k, with all the format's digits or with k = 0
record Lined (f : Format) (c q k : ℕ) : Type 0 where
  pub is : c ≡ q * 2 ^ k
  pub most : q < 2 ^ prec f
  pub full : Full f q k

lined : (f : Format) (c m j : ℕ) → Shape f c m j → (q : ℕ) × (k : ℕ) × Lined f c q k
unfolding Full
lined f c m j sh =
    let k = size c - prec f in
    let u = sh.units in
    let kl : k ≤ j = spare (size c) (prec f) j (size-le c (prec f + j) (subst (λ (x : ℕ). x < 2 ^ (prec f + j)) (sym u) (shl_lt (prec f) j sh.digits))) in
    let q = m * 2 ^ (j - k) in
    let e : c ≡ q * 2 ^ k = u ∙ ap (λ (x : ℕ). m * x) (ap (λ (x : ℕ). 2 ^ x) (sym (back j k kl)) ∙ pow-add 2 (j - k) k) ∙ sym (mul_assoc m (2 ^ (j - k)) (2 ^ k)) in
    let l : q * 2 ^ k < 2 ^ prec f * 2 ^ k = subst (λ (x : ℕ). x < 2 ^ prec f * 2 ^ k) e (lt_of_lt_of_le (size-lt c) (le_trans (pow_mono (cover (size c) (prec f))) (le_of_eq (pow-add 2 (prec f) k)))) in (
      q,
      k,
      record {
        is = e;
        most = lt_of_mul-lt-mul_right (2 ^ k) l;
        full = elim (dec_le (size c) (prec f)) [
          | yes h ↦ inl (none (size c) (prec f) h)
          | no g ↦
              let a : hid f * 2 ^ k ≤ q * 2 ^ k = subst (λ (x : ℕ). hid f * 2 ^ k ≤ x) e (le_trans (le_of_eq (sym (pow-add 2 (prec f - 1) k))) (size_reaches c (prec f - 1 + k) (more (size c) (prec f) (two f) (lt_of_not-le g)))) in
              inr (le_of_mul-le-mul_right a (pow_pos k))
        ];
      },
    )
  where
    spare : (z p l : ℕ) → z ≤ p + l → z - p ≤ l
    spare z p l h = omega arith

    cover : (z p : ℕ) → z ≤ p + (z - p)
    cover z p = omega arith

    none : (z p : ℕ) → z ≤ p → z - p ≡ 0
    none z p h = omega arith

    more : (z p : ℕ) → 2 ≤ p → p < z → p - 1 + (z - p) < z
    more z p t h = omega arith

-- the next value above q * 2 ^ k
above : (f : Format) (q k y my jy : ℕ) → Full f q k → Shape f y my jy → q * 2 ^ k < y → suc q * 2 ^ k ≤ y
unfolding Full
above f q k y my jy (inr lo) sh l = subst (λ (x : ℕ). suc q * 2 ^ k ≤ x) (sym sh.units) (next_above f my jy k q sh.digits lo (subst (λ (x : ℕ). q * 2 ^ k < x) sh.units l))
above f q k y my jy (inl e) sh l =
    let w : (a : ℕ) → a * 2 ^ k ≡ a = λ a. ap (λ (x : ℕ). a * 2 ^ x) e ∙ mul-one a in
    le_trans (le_of_eq (w (suc q))) (lt_of_le_of_lt (le_of_eq (sym (w q))) l)

wider : (f : Format) (q k : ℕ) → Full f q k → Full f (suc q) k
unfolding Full
wider f q k (inl e) = inl e
wider f q k (inr l) = inr (le_trans l (le-suc q))

-- with b strictly between a and c, and a and c as far from n, b is nearer
between : (n a b c d : ℕ) → 0 < d → a < b → b < c → gap n (a * d) ≡ gap n (c * d) → gap n (b * d) < gap n (a * d)
between n a b c d D l m e =
    let x : a * d < b * d = mul-lt-mul_of_pos_right l D in
    let y : b * d < c * d = mul-lt-mul_of_pos_right m D in
    omega arith

odd_next : (q : ℕ) → q % 2 ≡ 0 → suc q % 2 ≡ 0 → ⊥
odd_next q a b = omega arith

module _ (f : Format) (s : Bool) (num den : ℕ) (D : 0 < den) where
  -- two closest values are not one below the other
  no_less : (r r' : Float) → Closest f s num den r → Closest f s num den r' → count f r < count f r' → ⊥
  no_less r r' a b l =
      let sh = any_shape f r a.held in
      let sh' = any_shape f r' b.held in
      let li = lined f (count f r) sh.0 sh.1 sh.2 in
      let q = li.0 in
      let k = li.1 in
      let L = li.2 in
      let e : away f num den r ≡ away f num den r' = le_antisymm (a.near r' b.held) (b.near r a.held) in
      let up : suc q * 2 ^ k ≤ count f r' = above f q k (count f r') sh'.0 sh'.1 L.full sh'.2 (subst (λ (x : ℕ). x < count f r') L.is l) in
      let even : q % 2 ≡ 0 = sym (bits_parity f s r q k a.sign L.is (le_of_lt L.most) L.full) ∙ a.even r' b.held (λ g. lt_irrefl (count f r) (subst (λ (x : ℕ). count f r < x) g l)) (sym e) in
      elim (eq-or-lt_of_le up) [
        | inl g ↦ odd_next q even (sym (bits_parity f s r' (suc q) k b.sign (sym g) L.most (wider f q k L.full)) ∙ b.even r a.held (λ h. lt_irrefl (count f r) (subst (λ (x : ℕ). count f r < x) (sym h) l)) e)
        | inr g ↦
            let fine : suc q * 2 ^ k < 2 ^ (low f + suc (emax f)) = lt_of_lt_of_le g (le_of_lt sh'.2.finite) in
            let y = odd (suc (prec f)) false (suc q) k (low f) in
            let t : T (fits f y) = odd-fits f (suc (prec f)) false (suc q) k (lt_of_le_of_lt L.most (pow-lt (lt-suc_self (prec f)))) L.most fine in
            let c : count f y ≡ suc q * 2 ^ k = count_is f y false (suc q * 2 ^ k) (odd_sign (suc (prec f)) false (suc q) k (low f)) in
            let m : count f r < count f y = lt_of_le_of_lt (le_of_eq L.is) (lt_of_lt_of_le (mul-lt-mul_of_pos_right (lt-suc_self q) (pow_pos k)) (le_of_eq (sym c))) in
            not-le_of_lt (between (num * 2 ^ low f) (count f r) (count f y) (count f r') den D m (subst (λ (x : ℕ). x < count f r') (sym c) g) e) (a.near y t)
      ]

  pub only_closest : (r r' : Float) → Closest f s num den r → Closest f s num den r' → r ≡ r'
  only_closest r r' a b =
      same_value f s r r' a.held b.held a.sign b.sign
      (le_antisymm (le_of_suc-le-suc (lt_of_not-le (λ g. no_less r' r b a g))) (le_of_suc-le-suc (lt_of_not-le (λ g. no_less r r' a b g))))

-- ---- a minus sign passes through `round`

neg_odd : (d : ℕ) (s : Bool) (q k l : ℕ) → neg (odd d s q k l) ≡ odd d (not s) q k l
unfolding neg odd
neg_odd d s zero k l = refl
neg_odd d s (suc q) k l = refl

neg_units : (f : Format) (s : Bool) (q k : ℕ) → neg (units f s q k) ≡ units f (not s) q k
unfolding units
neg_units f s q k = go (ltb (q * 2 ^ k) (2 ^ (low f + suc (emax f))))
  where
    go : (b : Bool) → neg (cond b (odd (suc (prec f)) s q k (low f)) (inf s)) ≡ cond b (odd (suc (prec f)) (not s) q k (low f)) (inf (not s))
    go true = neg_odd (suc (prec f)) s q k (low f)
    go false = unfold neg in refl

pub neg_round : (f : Format) (s : Bool) (num den : ℕ) → neg (round f s num den) ≡ round f (not s) num den
neg_round f s num den =
    ap neg (round_is f s num den)
    ∙ neg_units f s (closest (num * 2 ^ low f) (den * 2 ^ (size (num * 2 ^ low f / den) - prec f))) (size (num * 2 ^ low f / den) - prec f)
    ∙ sym (round_is f (not s) num den)

-- ---- a division of two whole numbers that the format holds

div_is : (f : Format) (m : ℕ) (e : ℤ) (n : ℕ) (d : ℤ) → (n ≡ 0 → ⊥) → div f (fin false m e) (fin false n d) ≡ round f false (m * up e * down d) (n * up d * down e)
unfolding div
div_is f m e n d h = simp (ne_eqb n 0 h)

div_at : (f : Format) (x y : Float) (a b : ℕ) → 0 < b → HasValue x false a 1 → HasValue y false b 1 → div f x y ≡ round f false a b
div_at f nan y a b B v w = absurd v
div_at f (inf s) y a b B v w = absurd v
div_at f (fin s m e) nan a b B v w = absurd w
div_at f (fin s m e) (inf t) a b B v w = absurd w
div_at f (fin true m e) (fin t n d) a b B v w = absurd (true≢false v.0)
div_at f (fin false m e) (fin true n d) a b B v w = absurd (true≢false w.0)
div_at f (fin false m e) (fin false n d) a b B v w =
    let p : m * up e ≡ a * down e = sym (mul-one (m * up e)) ∙ v.1 in
    let r : n * up d ≡ b * down d = sym (mul-one (n * up d)) ∙ w.1 in
    div_is f m e n d (some n d b (down d) B (down_pos d) r)
    ∙ round_same f false (m * up e * down d) (n * up d * down e) a b (mul-pos (subst (λ (x : ℕ). 0 < x) (sym r) (mul-pos B (down_pos d))) (down_pos e)) B
    (ap (λ (x : ℕ). x * down d * b) p ∙ turn a (down e) (down d) b ∙ ap (λ (x : ℕ). a * (x * down e)) (sym r))
  where
    some : (n : ℕ) (d : ℤ) (b z : ℕ) → 0 < b → 0 < z → n * up d ≡ b * z → n ≡ 0 → ⊥
    some n d b z B Z r e = lt_irrefl 0 (subst (λ (x : ℕ). 0 < x) (sym r ∙ ap (λ (x : ℕ). x * up d) e ∙ zero-mul (up d)) (mul-pos B Z))

    turn : (a x y b : ℕ) → a * x * y * b ≡ a * (b * y * x)
    turn a x y b = omega arith

pub div_whole : (f : Format) (a b : ℕ) → a ≤ 2 ^ prec f → b ≤ 2 ^ prec f → 0 < b → div f (of_int f (pos a)) (of_int f (pos b)) ≡ round f false a b
unfolding of_int
div_whole f a b A B P = div_at f (round f false a 1) (round f false b 1) a b P (round_whole f false a A) (round_whole f false b B)

-- ---- the sign is set afterwards

pub sign_round : (f : Format) (s : Bool) (a b : ℕ) → cond s (neg (round f false a b)) (round f false a b) ≡ round f s a b
sign_round f true a b = neg_round f false a b
sign_round f false a b = refl
