-- Digits in a text, which is a list of bytes, and the number that they stand for.
use Rattle.std.specs.Prelude.{ℕ, ◌+◌, ◌-◌, ◌*◌, ◌%◌, Bool, true, cond, ◌&&◌, List, [], ◌∷◌, length, leb, ltb}
use Rattle.real.specs.Refusal.{bad_text}
use Rattle.real.specs.Reply.{Reply, given, check}

unfoldable pub is_digit_of : ℕ → Bool
is_digit_of b = leb 48 b && leb b 57

unfoldable pub all_digits : List ℕ → Bool
all_digits [] = true
all_digits (b ∷ t) = is_digit_of b && all_digits t

-- the number that digits stand for, written on after n
unfoldable pub value_from : ℕ → List ℕ → ℕ
value_from n [] = n
value_from n (b ∷ t) = value_from (10 * n + (b - 48)) t

abbrev pub value_of : List ℕ → ℕ
value_of t = value_from 0 t

-- "digits only", one at least
unfoldable pub is_whole : List ℕ → Bool
is_whole t = leb 1 (length t) && all_digits t

-- ---- what `whole` answers: a machine word holds no number of any length, so one from the cap on is kept as the cap, or the next number, by its parity

abbrev pub cap : ℕ
cap = 10000000000000000000

unfoldable pub kept : ℕ → ℕ
kept n = cond (ltb n cap) n (cap + n % 2)

unfoldable pub digits_of : ℕ → List ℕ → Reply ℕ
digits_of n t = check (all_digits t) bad_text (given (kept (value_from n t)))

unfoldable pub whole_of : List ℕ → Reply ℕ
whole_of t = check (is_whole t) bad_text (given (kept (value_of t)))
