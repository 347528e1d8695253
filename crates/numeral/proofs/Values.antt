-- What digits stand for, read from the left, and how much of it a machine word keeps.
use mathlib.Core.Path.{◌≡◌, refl, sym, ap, ◌∙◌, subst}
use mathlib.Core.List.{List, [], ◌∷◌, ◌++◌}
use mathlib.Core.Bool.{true, false}
use Prim.Native.Nat.{ℕ, suc, ◌+◌, ◌-◌, ◌*◌, ◌%◌, ◌^◌, ◌≤◌, ◌<◌}
use native.Mathlib.Nat.{le_trans, le_refl, le_of_eq, lt_of_lt_of_le, pow-succ', pow-le-pow_right, add-zero, lt_irrefl, lt_of_not-le}
use native.Mathlib.Decide.{dec_le}
use native.Mathlib.Numerals.{add-one}
use native.Mathlib.Omega.{arith}
use lib.ListN.{length, drop, get_or}
use lib.Dec.{leb, lit≤, lit<}
use borrow.Author.Tests.{leb-true, lt-ltb, le-ltb, lt-leb, le-leb}
use Rattle.real.specs.Refusal.{bad_text}
use Rattle.real.specs.Reply.{refused, given, check}
use Rattle.real.proofs.Replies.{same_given, check_passed, check_failed, and_both}
use Rattle.numeral.specs.Digits.{is_digit_of, all_digits, value_from, value_of, is_whole, cap, kept, digits_of, whole_of}
use Rattle.numeral.proofs.Text.{here, past}

-- ---- digits

pub digit_bounds : (b : ℕ) → is_digit_of b ≡ true → (48 ≤ b) × (b ≤ 57)
unfolding is_digit_of
digit_bounds b d = let e = and_both (leb 48 b) (leb b 57) d in (leb-true 48 b e.0, leb-true b 57 e.1)

pub digits_append : (s t : List ℕ) → all_digits s ≡ true → all_digits t ≡ true → all_digits (s ++ t) ≡ true
unfolding all_digits
digits_append [] t a b = b
digits_append (d ∷ s) t a b = let e = and_both (is_digit_of d) (all_digits s) a in simp (e.0, digits_append s t e.1 b)

pub value_append : (n : ℕ) (s t : List ℕ) → value_from n (s ++ t) ≡ value_from (value_from n s) t
unfolding value_from
value_append n [] t = refl
value_append n (b ∷ s) t = value_append (10 * n + (b - 48)) s t

value_ge : (n : ℕ) (t : List ℕ) → n ≤ value_from n t
unfolding value_from
value_ge n [] = le_refl n
value_ge n (b ∷ t) = le_trans (more n (b - 48)) (value_ge (10 * n + (b - 48)) t)
  where
    more : (n d : ℕ) → n ≤ 10 * n + d
    more n d = omega arith

value_parity : (n m : ℕ) (t : List ℕ) → n % 2 ≡ m % 2 → value_from n t % 2 ≡ value_from m t % 2
unfolding value_from
value_parity n m [] h = h
value_parity n m (b ∷ t) h = value_parity (10 * n + (b - 48)) (10 * m + (b - 48)) t (omega arith)

-- digits stand for a number that has no more of them
value_lt : (n k : ℕ) (t : List ℕ) → n < 10 ^ k → all_digits t ≡ true → value_from n t < 10 ^ (k + length t)
unfolding value_from all_digits
value_lt n k [] h d = subst (λ (x : ℕ). n < 10 ^ x) (sym (add-zero k)) h
value_lt n k (b ∷ t) h d =
    let e = and_both (is_digit_of b) (all_digits t) d in
    let g = digit_bounds b e.0 in
    subst (λ (x : ℕ). value_from (10 * n + (b - 48)) t < 10 ^ x) (shift k (length t)) (value_lt (10 * n + (b - 48)) (k + 1) t (ten_more n (b - 48) k h (omega arith)) e.1)
  where
    shift : (k l : ℕ) → k + 1 + l ≡ k + suc l
    shift k l = omega arith

    more : (v d p : ℕ) → v < p → d ≤ 9 → 10 * v + d < 10 * p
    more v d p h l = omega arith

    ten_more : (v d k : ℕ) → v < 10 ^ k → d ≤ 9 → 10 * v + d < 10 ^ (k + 1)
    ten_more v d k h l = lt_of_lt_of_le (more v d (10 ^ k) h l) (le_of_eq (sym (ap (λ (n : ℕ). 10 ^ n) (add-one k) ∙ pow-succ' 10 k)))

pub value_under : (t : List ℕ) (k : ℕ) → length t ≤ k → all_digits t ≡ true → value_of t < 10 ^ k
value_under t k h d = lt_of_lt_of_le (value_lt 0 0 t (lit< tt) d) (pow-le-pow_right (lit≤ tt) (omega arith))

-- ---- what is kept of a number

pub kept_under : (n : ℕ) → n < cap → kept n ≡ n
unfolding kept
kept_under n h = simp (lt-ltb n cap h)

kept_past : (n : ℕ) → cap ≤ n → kept n ≡ cap + n % 2
unfolding kept
kept_past n h = simp (le-ltb n cap h)

kept_same : (n : ℕ) → n ≤ cap + 1 → kept n ≡ n
kept_same n h = elim (dec_le cap n) [ yes l ↦ kept_past n l ∙ omega arith | no g ↦ kept_under n (lt_of_not-le g) ]

pub kept_parity : (n : ℕ) → kept n % 2 ≡ n % 2
kept_parity n = elim (dec_le cap n) [ yes l ↦ ap (λ (x : ℕ). x % 2) (kept_past n l) ∙ omega arith | no g ↦ ap (λ (x : ℕ). x % 2) (kept_under n (lt_of_not-le g)) ]

-- it is below the cap where the number is, and then it is the number
pub kept_only : (c n : ℕ) → n < cap → kept c ≡ n → c ≡ n
kept_only c n h e = elim (dec_le cap c) [ yes l ↦ absurd (lt_irrefl n (let f = kept_past c l in omega arith)) | no g ↦ sym (kept_under c (lt_of_not-le g)) ∙ e ]

-- digits written on after it give what they would after the number itself
kept_on : (n : ℕ) (t : List ℕ) → kept (value_from n t) ≡ kept (value_from (kept n) t)
kept_on n t = elim (dec_le cap n) [
  | yes l ↦
      let c = cap + n % 2 in
      let g : cap ≤ c = omega arith in
      kept_past (value_from n t) (le_trans l (value_ge n t))
      ∙ ap (λ (x : ℕ). cap + x) (value_parity n c t (omega arith))
      ∙ sym (ap (λ (x : ℕ). kept (value_from x t)) (kept_past n l) ∙ kept_past (value_from c t) (le_trans g (value_ge c t)))
  | no g ↦ ap (λ (x : ℕ). kept (value_from x t)) (sym (kept_under n (lt_of_not-le g)))
]

pub written_small : (v d r : ℕ) → v < 1000000000000000000 → d ≤ 9 → r ≡ 10 * v + d → (r ≡ kept (10 * v + d)) × (r ≤ cap + 1)
written_small v d r h l e = (e ∙ sym (kept_under (10 * v + d) (omega arith)), omega arith)

pub written_large : (v d r : ℕ) → 1000000000000000000 ≤ v → r ≡ cap + d % 2 → (r ≡ kept (10 * v + d)) × (r ≤ cap + 1)
written_large v d r h e = (e ∙ sym (kept_past (10 * v + d) (omega arith) ∙ omega arith), omega arith)

-- ---- the loop: what is left, written on after what has been read, gives the whole

pub record Reading (text : List ℕ) (v n i : ℕ) : Type 0 where
  pub within : i ≤ length text
  pub is : digits_of n (drop i text) ≡ digits_of v text
  pub small : n ≤ cap + 1

pub reading_start : (t : List ℕ) (v : ℕ) → v < cap → Reading t v v 0
reading_start t v h = record { within = omega arith; is = refl; small = omega arith }

digits_here : (n b : ℕ) (t : List ℕ) → is_digit_of b ≡ true → digits_of n (b ∷ t) ≡ digits_of (kept (10 * n + (b - 48))) t
unfolding digits_of all_digits value_from
digits_here n b t d = simp d (ap (λ (x : ℕ). check (all_digits t) bad_text (given x)) (kept_on (10 * n + (b - 48)) t))

digits_stop : (n b : ℕ) (t : List ℕ) → is_digit_of b ≡ false → digits_of n (b ∷ t) ≡ refused bad_text
unfolding digits_of all_digits
digits_stop n b t d = simp d

module _ {text : List ℕ} {v n i : ℕ} (r : Reading text v n i) where
  pub reading_more : (m : ℕ) → i < length text → is_digit_of (get_or text i 0) ≡ true → m ≡ kept (10 * n + (get_or text i 0 - 48)) → m ≤ cap + 1 → Reading text v m (i + 1)
  reading_more m l d e s =
      record {
        within = omega arith;
        is = ap (λ (x : ℕ). digits_of x (drop (i + 1) text)) e ∙ sym (digits_here n (get_or text i 0) (drop (i + 1) text) d) ∙ ap (digits_of n) (sym (here text i l)) ∙ r.is;
        small = s;
      }

  pub reading_stopped : i < length text → is_digit_of (get_or text i 0) ≡ false → refused bad_text ≡ digits_of v text
  reading_stopped l d = sym (digits_stop n (get_or text i 0) (drop (i + 1) text) d) ∙ ap (digits_of n) (sym (here text i l)) ∙ r.is

  pub reading_done : length text ≤ i → given n ≡ digits_of v text
  unfolding digits_of all_digits value_from
  reading_done h =
      let w = r.within in
      let e : i ≡ length text = omega arith in
      ap given (sym (kept_same n r.small)) ∙ ap (digits_of n) (sym (past text i e)) ∙ r.is

-- ---- one digit at least

pub whole_digits : (t : List ℕ) → is_whole t ≡ true → all_digits t ≡ true
unfolding is_whole
whole_digits t h = (and_both (leb 1 (length t)) (all_digits t) h).1

pub whole_none : (t : List ℕ) → length t < 1 → refused bad_text ≡ whole_of t
unfolding whole_of is_whole
whole_none t h = simp (lt-leb 1 (length t) h)

pub whole_some : (t : List ℕ) → 1 ≤ length t → digits_of 0 t ≡ whole_of t
unfolding whole_of is_whole digits_of
whole_some t h = simp (le-leb 1 (length t) h)

-- what an answer shows
pub whole_read : (t : List ℕ) (n : ℕ) → given n ≡ whole_of t → (is_whole t ≡ true) × (n ≡ kept (value_of t))
unfolding whole_of
whole_read t n e = let p = check_passed {b = is_whole t} bad_text _ e in (p.0, same_given p.1)

pub whole_bad : (t : List ℕ) (k : ℕ) → refused k ≡ whole_of t → (is_whole t ≡ false) × (k ≡ bad_text)
unfolding whole_of
whole_bad t k e = check_failed {b = is_whole t} bad_text _ e
