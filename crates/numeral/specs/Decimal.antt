-- "Numbers have an optional sign, 1 to 15 digits in all and at most one point, no exponent; each becomes the nearest f64".
use Rattle.std.specs.Prelude.{ℕ, ◌+◌, ◌^◌, Bool, true, false, cond, ◌&&◌, ◌||◌, ◌≡◌, List, [], ◌∷◌, ◌++◌, length, leb, eqb, Float}
use Rattle.std.specs.Float.{binary64}
use Rattle.std.specs.Float.Ieee.{round}
use Rattle.real.specs.Refusal.{bad_text}
use Rattle.real.specs.Reply.{Reply, refused, given, check}
use Rattle.numeral.specs.Closest.{Closest}
use Rattle.numeral.specs.Digits.{all_digits, value_of}

-- ---- the sign, and what stands before the first point and after it

unfoldable pub is_minus : List ℕ → Bool
is_minus [] = false
is_minus (b ∷ t) = eqb b 45

unfoldable pub unsigned : List ℕ → List ℕ
unsigned [] = []
unsigned (b ∷ t) = cond (eqb b 43 || eqb b 45) t (b ∷ t)

unfoldable pub before_point : List ℕ → List ℕ
before_point [] = []
before_point (b ∷ t) = cond (eqb b 46) [] (b ∷ before_point t)

unfoldable pub after_point : List ℕ → List ℕ
after_point [] = []
after_point (b ∷ t) = cond (eqb b 46) t (after_point t)

abbrev pub front : List ℕ → List ℕ
front t = before_point (unsigned t)

abbrev pub places : List ℕ → List ℕ
places t = after_point (unsigned t)

-- ---- the text, and the fraction that it stands for

abbrev pub few_digits : List ℕ → List ℕ → Bool
few_digits w r = leb 1 (length w + length r) && leb (length w + length r) 15

unfoldable pub is_number : List ℕ → Bool
is_number t = few_digits (front t) (places t) && (all_digits (front t) && all_digits (places t))

abbrev pub numerator : List ℕ → ℕ
numerator t = value_of (front t ++ places t)

abbrev pub denominator : List ℕ → ℕ
denominator t = 10 ^ length (places t)

-- ---- the answer: the fraction by the kit's own rounding, or "13 for .. a bad number"

unfoldable pub number_of : List ℕ → Reply Float
number_of t = check (is_number t) bad_text (given (round binary64 (is_minus t) (numerator t) (denominator t)))

-- the same with no rounding named: what an answer has to be
unfoldable pub IsNumber : List ℕ → Reply Float → Type 0
IsNumber t (given x) = (is_number t ≡ true) × Closest binary64 (is_minus t) (numerator t) (denominator t) x
IsNumber t (refused k) = (is_number t ≡ false) × (k ≡ bad_text)

-- ---- the words of the inner contracts: of digits w and r before and after the point, and of a text u without its sign

unfoldable pub decimal_of : Bool → List ℕ → List ℕ → Reply Float
decimal_of s w r = check (all_digits w && all_digits r) bad_text (given (round binary64 s (value_of (w ++ r)) (10 ^ length r)))

unfoldable pub unsigned_of : Bool → List ℕ → Reply Float
unsigned_of s u = check (few_digits (before_point u) (after_point u)) bad_text (decimal_of s (before_point u) (after_point u))
