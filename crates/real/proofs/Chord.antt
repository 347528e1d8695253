-- The root along the chord between two roots of a table, of i * 4 * d and (i + 1) * 4 * d: it is right or one too small.
use mathlib.Core.Path.{◌≡◌, sym, ap, ◌∙◌, subst}
use Prim.Native.Nat.{ℕ, suc, ◌+◌, ◌-◌, ◌*◌, ◌/◌, ◌%◌, ◌^◌, ◌≤◌, ◌<◌}
use native.Mathlib.Nat.{add-le-add, le_of_suc-le-suc, le_of_lt, le_trans, le_of_eq, lt_of_not-le, le_dest, mul-le-mul, mul-le-mul_left, mul-le-mul_right}
use native.Mathlib.Decide.{dec_le}
use native.Mathlib.Omega.{arith}
use Rattle.real.specs.Whole.{Root}
use Rattle.real.proofs.Squares.{sq_le, sq_lt, sq_lt_back}
use Rattle.real.proofs.Floor.{Floor}

-- four times a product is at most the square of the sum
mean : (x y : ℕ) → 4 * (x * y) ≤ (x + y) * (x + y)
mean x y = elim (dec_le x y) [ yes h ↦ go x y h | no g ↦ let l : y ≤ x = omega arith in let r = go y x l in omega arith ]
  where
    at : (x d : ℕ) → 4 * (x * (x + d)) ≤ (x + (x + d)) * (x + (x + d))
    at x d = omega arith

    go : (x y : ℕ) → x ≤ y → 4 * (x * y) ≤ (x + y) * (x + y)
    go x y h = let d = le_dest h in subst (λ (z : ℕ). 4 * (x * z) ≤ (x + z) * (x + z)) d.1 (at x d.0)

-- ---- the chord, with x + y for d, at i * d + y: its height is (a * x + b * y) / d, twice the root

abbrev height : ℕ → ℕ → ℕ → ℕ → ℕ
height a e x y = a * x + (a + e) * y

-- the mean of squares, and the square of the mean
spread : (a e x y : ℕ) → (x + y) * (a * a * x + (a + e) * (a + e) * y) ≡ height a e x y * height a e x y + e * e * (x * y)
spread a e x y = omega arith

below : (i a e x y : ℕ) → a * a ≤ i * (4 * (x + y)) → (a + e) * (a + e) ≤ suc i * (4 * (x + y)) → height a e x y * height a e x y ≤ 4 * ((x + y) * (x + y)) * (i * (x + y) + y)
below i a e x y h k =
    let r : (x + y) * (a * a * x + (a + e) * (a + e) * y) ≤ (x + y) * (i * (4 * (x + y)) * x + suc i * (4 * (x + y)) * y) = mul-le-mul_left (x + y) (add-le-add (mul-le-mul_right x h) (mul-le-mul_right y k)) in
    let s = spread a e x y in
    omega arith

over : (i a e x y : ℕ) → i * (4 * (x + y)) ≤ a * a + 2 * a → suc i * (4 * (x + y)) ≤ (a + e) * (a + e) + 2 * (a + e) → 4 * ((x + y) * (x + y)) * (i * (x + y) + y) ≤ height a e x y * height a e x y + e * e * (x * y) + 2 * ((x + y) * height a e x y)
over i a e x y h k =
    let r : (x + y) * (i * (4 * (x + y)) * x + suc i * (4 * (x + y)) * y) ≤ (x + y) * ((a * a + 2 * a) * x + ((a + e) * (a + e) + 2 * (a + e)) * y) = mul-le-mul_left (x + y) (add-le-add (mul-le-mul_right x h) (mul-le-mul_right y k)) in
    le_trans (le_of_eq left) (le_trans r (le_of_eq (right ∙ ap (λ (v : ℕ). v + 2 * ((x + y) * height a e x y)) (spread a e x y))))
  where
    left : 4 * ((x + y) * (x + y)) * (i * (x + y) + y) ≡ (x + y) * (i * (4 * (x + y)) * x + suc i * (4 * (x + y)) * y)
    left = omega arith

    right : (x + y) * ((a * a + 2 * a) * x + ((a + e) * (a + e) + 2 * (a + e)) * y) ≡ (x + y) * (a * a * x + (a + e) * (a + e) * y) + 2 * ((x + y) * (a * x + (a + e) * y))
    right = omega arith

above : (i a e x y : ℕ) → i * (4 * (x + y)) ≤ a * a + 2 * a → suc i * (4 * (x + y)) ≤ (a + e) * (a + e) + 2 * (a + e) → e ≤ 2 ^ 8 → 2 ^ 14 ≤ a → 4 * ((x + y) * (x + y)) * (i * (x + y) + y) ≤ (height a e x y + 2 * (x + y)) * (height a e x y + 2 * (x + y))
above i a e x y h k l b =
    let w : e * e * (x * y) ≤ 2 ^ 8 * 2 ^ 8 * (x * y) = mul-le-mul_right (x * y) (mul-le-mul l l) in
    let u : 2 ^ 14 * (x + y) ≤ height a e x y = le_trans (mul-le-mul_right (x + y) b) more in
    le_trans (over i a e x y h k) (sums (height a e x y) (x + y) (e * e * (x * y)) (x * y) w (mean x y) (mul-le-mul_right (x + y) u))
  where
    more : a * (x + y) ≤ a * x + (a + e) * y
    more = omega arith

    sums : (c d v w : ℕ) → v ≤ 2 ^ 8 * 2 ^ 8 * w → 4 * w ≤ d * d → 2 ^ 14 * d * d ≤ c * d → c * c + v + 2 * (d * c) ≤ (c + 2 * d) * (c + 2 * d)
    sums c d v w p q r = omega arith

-- ---- at the table's entries

-- s, the whole part of c / 2 ^ 22
low_at : (n c : ℕ) → c * c ≤ 2 ^ 44 * n → c / 2 ^ 22 * (c / 2 ^ 22) ≤ n
low_at n c h = let s = c / 2 ^ 22 in let q : s * 2 ^ 22 * (s * 2 ^ 22) ≤ c * c = sq_le (s * 2 ^ 22) c (omega arith) in omega arith

high_at : (n c : ℕ) → 2 ^ 44 * n ≤ (c + 2 ^ 22) * (c + 2 ^ 22) → n < (c / 2 ^ 22 + 2) * (c / 2 ^ 22 + 2)
high_at n c h = let s = c / 2 ^ 22 in let q : (c + 2 ^ 22) * (c + 2 ^ 22) < (s + 2) * 2 ^ 22 * ((s + 2) * 2 ^ 22) = sq_lt (c + 2 ^ 22) ((s + 2) * 2 ^ 22) (omega arith) in omega arith

-- two entries that follow one another: a, and b that is not below it
rises : (i a b : ℕ) → Floor (i * 2 ^ 23) a → Floor (suc i * 2 ^ 23) b → a ≤ b
rises i a b f g = le_of_suc-le-suc (sq_lt_back a (suc b) (let h = f.low in let k = g.high in omega arith))

large : (i a : ℕ) → 32 ≤ i → Floor (i * 2 ^ 23) a → 2 ^ 14 ≤ a
large i a l f = le_of_suc-le-suc (sq_lt_back (2 ^ 14) (suc a) (let h = f.high in omega arith))

small : (i a : ℕ) → i ≤ 128 → Floor (i * 2 ^ 23) a → a ≤ 2 ^ 15
small i a l f = le_of_suc-le-suc (sq_lt_back a (suc (2 ^ 15)) (let h = f.low in omega arith))

close : (i a e : ℕ) → 2 ^ 14 ≤ a → Floor (i * 2 ^ 23) a → Floor (suc i * 2 ^ 23) (a + e) → e ≤ 2 ^ 8
close i a e l f g = le_of_suc-le-suc (lt_of_not-le (λ (k : suc (2 ^ 8) ≤ e). no f.high g.low (mul-le-mul_left a k) (mul-le-mul k k)))
  where
    no : i * 2 ^ 23 < suc a * suc a → (a + e) * (a + e) ≤ suc i * 2 ^ 23 → a * suc (2 ^ 8) ≤ a * e → suc (2 ^ 8) * suc (2 ^ 8) ≤ e * e → ⊥
    no p q u v = omega arith

-- what `first` uses, of n = i * 2 ^ 21 + y: the products are small, and the quotient is the root or one less
pub record Chord (n y a b : ℕ) : Type 0 where
  pub left : a * (2 ^ 21 - y) ≤ 2 ^ 36
  pub right : b * y ≤ 2 ^ 36
  pub low : (a * (2 ^ 21 - y) + b * y) / 2 ^ 22 * ((a * (2 ^ 21 - y) + b * y) / 2 ^ 22) ≤ n
  pub high : n < ((a * (2 ^ 21 - y) + b * y) / 2 ^ 22 + 2) * ((a * (2 ^ 21 - y) + b * y) / 2 ^ 22 + 2)

at : (i y a e : ℕ) → 32 ≤ i → i < 128 → y < 2 ^ 21 → Floor (i * 2 ^ 23) a → Floor (suc i * 2 ^ 23) (a + e) → Chord (i * 2 ^ 21 + y) y a (a + e)
at i y a e lo hi h f g =
    let x = 2 ^ 21 - y in
    let d : x + y ≡ 2 ^ 21 = omega arith in
    let c = height a e x y in
    let x_le : x ≤ 2 ^ 21 = omega arith in
    let big = large i a lo f in
    let fl = f.low in
    let gl = g.low in
    let fh = f.high in
    let gh = g.high in
    let l : c * c ≤ 4 * ((x + y) * (x + y)) * (i * (x + y) + y) = below i a e x y (rw d fl) (rw d gl) in
    let u : 4 * ((x + y) * (x + y)) * (i * (x + y) + y) ≤ (c + 2 * (x + y)) * (c + 2 * (x + y)) = above i a e x y (rw d (omega arith)) (rw d (omega arith)) (close i a e big f g) big in
    record {
      left = mul-le-mul (small i a (le_of_lt hi) f) x_le;
      right = mul-le-mul (small (suc i) (a + e) hi g) (le_of_lt h);
      low = low_at (i * 2 ^ 21 + y) c (rw d at l);
      high = high_at (i * 2 ^ 21 + y) c (rw d at u);
    }

pub chord : (n i a b : ℕ) → i ≡ n / 2 ^ 21 → 2 ^ 26 ≤ n → n < 2 ^ 28 → Floor (i * 2 ^ 23) a → Floor (suc i * 2 ^ 23) b → Chord n (n % 2 ^ 21) a b
chord n i a b e lo hi f g =
    let d = le_dest (rises i a b f g) in
    let n_is : i * 2 ^ 21 + n % 2 ^ 21 ≡ n = omega arith in
    subst (λ (z : ℕ). Chord n (n % 2 ^ 21) a z) d.1
    (subst (λ (z : ℕ). Chord z (n % 2 ^ 21) a (a + d.0)) n_is
    (at i (n % 2 ^ 21) a d.0 (omega arith) (omega arith) (omega arith) f (subst (λ (z : ℕ). Floor (suc i * 2 ^ 23) z) (sym d.1) g)))

-- ---- and which of the two it is

pub one_more : (n s : ℕ) → s * s ≤ n → n < (s + 2) * (s + 2) → 2 * s < n - s * s → Root n (s + 1) (n - s * s - 2 * s - 1)
one_more n s l h k = record { sum = omega arith; rest = omega arith }

pub as_it_is : (n s : ℕ) → s * s ≤ n → n - s * s ≤ 2 * s → Root n s (n - s * s)
as_it_is n s l k = record { sum = omega arith; rest = k }
