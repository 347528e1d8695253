-- Numbers as text. "Floats are 16 hex digits of their bits, all else is decimal".
use Rattle.std.specs.Prelude.{ℕ, zero, suc, ◌+◌, ◌/◌, ◌%◌, ◌^◌, cond, List, [], ◌∷◌, ◌++◌, ltb, Float}
use Rattle.std.specs.Float.Ieee.{to_bits}
use Rattle.std.specs.Float.{binary64}
use Rattle.text.specs.Ascii.{ascii}

-- the ASCII codes of a decimal digit, and of a hexadecimal one: `0` to `9`, then `a` to `f`
abbrev pub digit : ℕ → ℕ
digit d = 48 + d

abbrev pub glyph : ℕ → ℕ
glyph d = cond (ltb d 10) (48 + d) (87 + d)

-- the last k hexadecimal digits of n, the most significant first
unfoldable pub hex : ℕ → ℕ → List ℕ
hex zero n = []
hex (suc k) n = glyph (n / 16 ^ k % 16) ∷ hex k n

-- the last k decimal digits of n
unfoldable pub digits : ℕ → ℕ → List ℕ
digits zero n = []
digits (suc k) n = digits k (n / 10) ++ digit (n % 10) ∷ []

-- the decimal digits of n below 10 ^ k, with no zero in front
unfoldable pub decimals : ℕ → ℕ → List ℕ
decimals zero n = []
decimals (suc k) n = cond (ltb n 10) (digit n ∷ []) (decimals k (n / 10) ++ digit (n % 10) ∷ [])

-- a number of 64 bits has at most 20
unfoldable pub decimal : ℕ → List ℕ
decimal n = decimals 20 n

-- a space, and a float
unfoldable pub float : Float → List ℕ
float x = ascii " " ++ hex 16 (to_bits binary64 x)
