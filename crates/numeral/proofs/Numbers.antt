-- A number's text by its parts, and what its number is: the nearest value (`number_is`), and no other (`only_number`).
use mathlib.Core.Path.{◌≡◌, refl, sym, ap, ap₂, ◌∙◌, subst}
use mathlib.Core.List.{List, [], ◌∷◌, ◌++◌}
use mathlib.Core.Bool.{Bool, true, false, ◌&&◌, true≢false}
use Prim.Native.Nat.{ℕ, suc, ◌+◌, ◌^◌, ◌≤◌, ◌<◌}
use native.Mathlib.Nat.{le_of_lt, lt_irrefl, lt_of_lt_of_le, lt_of_le_of_lt, pow-le-pow_right}
use native.Mathlib.Omega.{arith}
use lib.ListN.{length, take, drop, get_or, drop_of_length-le, length-append}
use lib.Seq.{take_all}
use lib.Dec.{T, leb, lit≤, lit<}
use lib.Ieee.{Float, binary64, round, fits}
use borrow.Author.Tests.{ne_eqb, lt-leb, le-leb, leb-true}
use Rattle.std.specs.Prelude.{Option, Some, None, position, eqb}
use Rattle.std.specs.List.{position_or_len}
use Rattle.real.specs.Refusal.{bad_text}
use Rattle.real.specs.Reply.{Reply, refused, given, check}
use Rattle.real.proofs.Replies.{same_given, check_passed, check_failed, and_both}
use Rattle.numeral.specs.Digits.{all_digits, value_from, value_of, cap, kept, digits_of}
use Rattle.numeral.specs.Decimal.{is_minus, unsigned, before_point, after_point, front, places, few_digits, is_number, numerator, denominator, number_of, IsNumber, decimal_of, unsigned_of}
use Rattle.numeral.proofs.Round.{round_closest, only_closest}
use Rattle.numeral.proofs.Text.{first_at, nowhere}
use Rattle.numeral.proofs.Values.{digits_append, value_append, value_under, kept_under}

-- ---- the point: the first byte that is one

abbrev is_point : ℕ → Bool
is_point b = eqb b 46

one_more : (n : ℕ) → 1 + n ≡ suc n
one_more n = omega arith

past_one : (n : ℕ) → 1 + n + 1 ≡ suc (n + 1)
past_one n = omega arith

by_point : (t : List ℕ) → (take (position_or_len is_point t) t ≡ before_point t) × (drop (position_or_len is_point t + 1) t ≡ after_point t)
unfolding before_point after_point
by_point [] = (refl, refl)
by_point (b ∷ t) = go (is_point b) refl (by_point t)
  where
    go : (h : Bool) → is_point b ≡ h → (take (position_or_len is_point t) t ≡ before_point t) × (drop (position_or_len is_point t + 1) t ≡ after_point t) → (take (position_or_len is_point (b ∷ t)) (b ∷ t) ≡ before_point (b ∷ t)) × (drop (position_or_len is_point (b ∷ t) + 1) (b ∷ t) ≡ after_point (b ∷ t))
    go true e r = (simp e, simp e)
    go false e r = (simp (e, one_more, r.0), simp e (ap (λ (n : ℕ). drop n (b ∷ t)) (past_one (position_or_len is_point t)) ∙ r.1))

pub parted_at : (t : List ℕ) (p : ℕ) → Some p ≡ position is_point t → (take p t ≡ before_point t) × (drop (p + 1) t ≡ after_point t)
parted_at t p e = subst (λ (n : ℕ). (take n t ≡ before_point t) × (drop (n + 1) t ≡ after_point t)) (first_at is_point t p e).0 (by_point t)

pub unparted : (t : List ℕ) → ◌≡◌ {A = Option ℕ} None (position is_point t) → (t ≡ before_point t) × ([] ≡ after_point t)
unparted t e =
    let l = nowhere is_point t e in
    (sym (take_all (position_or_len is_point t) t l) ∙ (by_point t).0, sym (drop_of_length-le t {i = position_or_len is_point t + 1} (omega arith)) ∙ (by_point t).1)

-- ---- the digits w and r before and after the point, 15 at most

module _ (w r : List ℕ) (few : length w + length r ≤ 15) where
  pub front_read : (n : ℕ) → given n ≡ digits_of 0 w → (all_digits w ≡ true) × (n ≡ value_of w) × (n < cap)
  unfolding digits_of
  front_read n e =
      let p = check_passed bad_text _ e in
      let l = lt_of_lt_of_le (value_under w 15 (omega arith) p.0) (lit≤ tt) in
      let v : n ≡ value_of w = same_given p.1 ∙ kept_under (value_of w) l in
      (p.0, v, subst (λ (x : ℕ). x < cap) (sym v) l)

  pub front_bad : (k : ℕ) (s : Bool) → refused k ≡ digits_of 0 w → refused k ≡ decimal_of s w r
  unfolding digits_of decimal_of
  front_bad k s e = let f = check_failed {b = all_digits w} bad_text _ e in ap refused f.1 ∙ simp f.0

  module _ (n : ℕ) (read : given n ≡ digits_of 0 w) where
    pub rest_bad : (k : ℕ) (s : Bool) → refused k ≡ digits_of n r → refused k ≡ decimal_of s w r
    unfolding digits_of decimal_of
    rest_bad k s e = let f = check_failed {b = all_digits r} bad_text _ e in ap refused f.1 ∙ simp ((front_read n read).0, f.0)

    -- both parts' number, below 10 ^ 15
    pub rest_read : (d : ℕ) → given d ≡ digits_of n r → (all_digits r ≡ true) × (d ≡ value_of (w ++ r)) × (d < 10 ^ 15)
    unfolding digits_of
    rest_read d e =
        let f = front_read n read in
        let p = check_passed bad_text _ e in
        let v : value_from n r ≡ value_of (w ++ r) = ap (λ (x : ℕ). value_from x r) f.1 ∙ sym (value_append 0 w r) in
        let l = value_under (w ++ r) 15 (subst (λ (x : ℕ). x ≤ 15) (sym (length-append w r)) few) (digits_append w r f.0 p.0) in
        let z : d ≡ value_of (w ++ r) = same_given p.1 ∙ ap kept v ∙ kept_under (value_of (w ++ r)) (lt_of_lt_of_le l (lit≤ tt)) in
        (p.0, z, subst (λ (x : ℕ). x < 10 ^ 15) (sym z) l)

    pub both_read : (d : ℕ) (x : Float) (s : Bool) → given d ≡ digits_of n r → x ≡ round binary64 s d (10 ^ length r) → given x ≡ decimal_of s w r
    unfolding decimal_of
    both_read d x s e p =
        let g = rest_read d e in
        ap given (p ∙ ap (λ (y : ℕ). round binary64 s y (10 ^ length r)) g.1) ∙ simp ((front_read n read).0, g.0)

-- 10 ^ 15 and what is below it are whole numbers that an f64 holds
pub power_small : (p k : ℕ) → p ≡ 10 ^ k → k ≤ 15 → (p < 2 ^ 53) × (0 < p)
power_small p k e l = (
  subst (λ (x : ℕ). x < 2 ^ 53) (sym e) (lt_of_le_of_lt (pow-le-pow_right (lit≤ tt) l) (lit< tt)),
  subst (λ (x : ℕ). 0 < x) (sym e) (pow-le-pow_right {n = 10} (lit≤ tt) {i = 0} {j = k} (omega arith)),
)

-- ---- a text without its sign

module _ (s : Bool) (u w r : List ℕ) (before : w ≡ before_point u) (after : r ≡ after_point u) where
  as_parts : unsigned_of s u ≡ check (few_digits w r) bad_text (decimal_of s w r)
  unfolding unsigned_of
  as_parts = sym (ap₂ (λ (w r : List ℕ). check (few_digits w r) bad_text (decimal_of s w r)) before after)

  pub too_few : length w + length r < 1 → refused bad_text ≡ unsigned_of s u
  too_few h = sym (as_parts ∙ simp (lt-leb 1 (length w + length r) h))

  pub too_many : 15 < length w + length r → refused bad_text ≡ unsigned_of s u
  too_many h = sym (as_parts ∙ simp (le-leb 1 (length w + length r) (omega arith), lt-leb (length w + length r) 15 h))

  pub enough : 1 ≤ length w + length r → length w + length r ≤ 15 → decimal_of s w r ≡ unsigned_of s u
  enough h l = sym (as_parts ∙ simp (le-leb 1 (length w + length r) h, le-leb (length w + length r) 15 l))

-- ---- the sign

-- the two checks of an unsigned text are the one of a number's
whole_text_law : (s : Bool) (t : List ℕ) → check (is_number t) bad_text (given (round binary64 s (numerator t) (denominator t))) ≡ unsigned_of s (unsigned t)
unfolding unsigned_of decimal_of is_number
whole_text_law s t = go (few_digits (front t) (places t))
  where
    go : (b : Bool) → check (b && (all_digits (front t) && all_digits (places t))) bad_text (given (round binary64 s (numerator t) (denominator t))) ≡ check b bad_text (decimal_of s (front t) (places t))
    go true = refl
    go false = refl

number_by : (t : List ℕ) → unsigned_of (is_minus t) (unsigned t) ≡ number_of t
unfolding number_of
number_by t = sym (whole_text_law (is_minus t) t)

-- an empty text is read as one that has no sign, and is refused
pub number_empty : (t : List ℕ) → length t < 1 → unsigned_of false t ≡ number_of t
unfolding unsigned is_minus
number_empty [] h = number_by []
number_empty (b ∷ t) h = absurd (lt_irrefl 0 (omega arith))

pub number_none : (t : List ℕ) → length t < 1 → refused bad_text ≡ number_of t
unfolding unsigned_of unsigned is_minus before_point after_point
number_none [] h = number_by []
number_none (b ∷ t) h = absurd (lt_irrefl 0 (omega arith))

pub number_minus : (t : List ℕ) → 1 ≤ length t → get_or t 0 0 ≡ 45 → unsigned_of true (drop 1 t) ≡ number_of t
unfolding is_minus unsigned
number_minus [] h e = absurd (lt_irrefl 0 h)
number_minus (b ∷ t) h e = ap (λ (x : ℕ). unsigned_of (is_minus (x ∷ t)) (unsigned (x ∷ t))) (sym e) ∙ number_by (b ∷ t)

pub number_plus : (t : List ℕ) → 1 ≤ length t → get_or t 0 0 ≡ 43 → unsigned_of false (drop 1 t) ≡ number_of t
unfolding is_minus unsigned
number_plus [] h e = absurd (lt_irrefl 0 h)
number_plus (b ∷ t) h e = ap (λ (x : ℕ). unsigned_of (is_minus (x ∷ t)) (unsigned (x ∷ t))) (sym e) ∙ number_by (b ∷ t)

pub number_bare : (t : List ℕ) → (get_or t 0 0 ≡ 45 → ⊥) → (get_or t 0 0 ≡ 43 → ⊥) → unsigned_of false t ≡ number_of t
unfolding is_minus unsigned
number_bare [] m p = number_by []
number_bare (b ∷ t) m p = sym (simp (ne_eqb b 45 m, ne_eqb b 43 p)) ∙ number_by (b ∷ t)

-- ---- the answer is the nearest f64, and no other answer is right

fraction_cap : (t : List ℕ) → is_number t ≡ true → (numerator t ≤ 2 ^ 53) × (0 < denominator t)
unfolding is_number
fraction_cap t h =
    let w = front t in
    let r = places t in
    let p = and_both (few_digits w r) (all_digits w && all_digits r) h in
    let d = and_both (all_digits w) (all_digits r) p.1 in
    let few : length w + length r ≤ 15 = leb-true (length w + length r) 15 (and_both (leb 1 (length w + length r)) (leb (length w + length r) 15) p.0).1 in
    (le_of_lt (lt_of_lt_of_le (value_under (w ++ r) 15 (subst (λ (x : ℕ). x ≤ 15) (sym (length-append w r)) few) (digits_append w r d.0 d.1)) (lit≤ tt)), (power_small (10 ^ length r) (length r) refl (omega arith)).1)

pub number_is : (t : List ℕ) → IsNumber t (number_of t)
unfolding IsNumber number_of
number_is t = go (is_number t) refl
  where
    go : (b : Bool) → is_number t ≡ b → IsNumber t (check b bad_text (given (round binary64 (is_minus t) (numerator t) (denominator t))))
    go true e = let c = fraction_cap t e in (e, round_closest binary64 (is_minus t) (numerator t) (denominator t) c.1 c.0)
    go false e = (e, refl)

clash : {b : Bool} → b ≡ true → b ≡ false → ⊥
clash h k = true≢false (sym h ∙ k)

pub only_number : (t : List ℕ) (a b : Reply Float) → IsNumber t a → IsNumber t b → a ≡ b
unfolding IsNumber
only_number t (given x) (given y) h k = ap given (only_closest binary64 (is_minus t) (numerator t) (denominator t) (fraction_cap t h.0).1 x y h.1 k.1)
only_number t (given x) (refused n) h k = absurd (clash h.0 k.0)
only_number t (refused m) (given y) h k = absurd (clash k.0 h.0)
only_number t (refused m) (refused n) h k = ap refused (h.1 ∙ sym k.1)

-- an answer that is the definition's is right
pub right : (t : List ℕ) (a : Reply Float) → a ≡ number_of t → (a ≡ number_of t) × IsNumber t a
right t a e = (e, subst (IsNumber t) (sym e) (number_is t))

-- a number that is read is an f64
pub number_held : (t : List ℕ) (x : Float) → number_of t ≡ given x → T (fits binary64 x)
unfolding IsNumber
number_held t x e = (subst (IsNumber t) e (number_is t)).1.held
