-- Eight hexadecimal digits at once, each in a part of one number: a mask takes the same digits out of every part.
use mathlib.Core.Path.{◌≡◌, refl, ap, ap₂, ◌∙◌}
use mathlib.Core.List.{[], ◌∷◌}
use Prim.Native.Nat.{ℕ, zero, suc, ◌+◌, ◌-◌, ◌*◌, ◌/◌, ◌%◌, ◌^◌, ◌<◌, ◌≤◌}
use native.Mathlib.Nat.{mod-eq_of_lt, le_trans, le_of_eq}
use native.Mathlib.Decide.{dec_lt}
use native.Mathlib.Omega.{arith}
use lib.Bits.{bit_and, and_block, and_mask, and_le_r}
use borrow.Author.Tests.{lt-ltb, le-ltb}
use Rattle.std.specs.Int.{w64, from_le_bytes, to_le_bytes}
use Rattle.std.proofs.lemmas.Nat.{le_bytes_8}
use lib.ListN.{get_or}
use Rattle.text.specs.Digits.{glyph, hex}

-- of the lowest part, of k bits, a mask keeps the last m; x is the parts b above r
lowest : (k m x b r e M : ℕ) → x ≡ b * 2 ^ k + r → r < 2 ^ k → 2 ^ m - 1 < 2 ^ k → r % 2 ^ m ≡ e → bit_and x (M * 2 ^ k + (2 ^ m - 1)) ≡ bit_and b M * 2 ^ k + e
lowest k m x b r e M p h l q =
    ap (λ (z : ℕ). bit_and z (M * 2 ^ k + (2 ^ m - 1))) p ∙ and_block k b M r (2 ^ m - 1) h l ∙ ap (λ (z : ℕ). bit_and b M * 2 ^ k + z) (and_mask r m ∙ q)

-- the first byte of a part of 32 bits with two, the first digit of a part of 16 with two, and the carry out of a digit in a part of 8
half : (a h M : ℕ) → h < 0x1_0000 → bit_and ((a * 0x1_0000_0000 + h) / 0x100) (M * 0x1_0000_0000 + 0xff) ≡ bit_and (a / 0x100) M * 0x1_0000_0000 + h / 0x100
half a h M l = lowest 32 8 ((a * 0x1_0000_0000 + h) / 0x100) (a / 0x100) (a % 0x100 * 0x100_0000 + h / 0x100) (h / 0x100) M (omega arith) (omega arith) (omega arith) (omega arith)

first : (a e M : ℕ) → e < 0x100 → bit_and ((a * 0x1_0000 + e) / 0x10) (M * 0x1_0000 + 0xf) ≡ bit_and (a / 0x10) M * 0x1_0000 + e / 0x10
first a e M l = lowest 16 4 ((a * 0x1_0000 + e) / 0x10) (a / 0x10) (a % 0x10 * 0x1000 + e / 0x10) (e / 0x10) M (omega arith) (omega arith) (omega arith) (omega arith)

carry : (a d M : ℕ) → d < 0x20 → bit_and ((a * 0x100 + d) / 0x10) (M * 0x100 + 1) ≡ bit_and (a / 0x10) M * 0x100 + d / 0x10
carry a d M l = lowest 8 1 ((a * 0x100 + d) / 0x10) (a / 0x10) (a % 0x10 * 0x10 + d / 0x10) (d / 0x10) M (omega arith) (omega arith) (omega arith) (omega arith)

only : (m x : ℕ) → x < 2 ^ m → bit_and x (2 ^ m - 1) ≡ x
only m x h = and_mask x m ∙ mod-eq_of_lt h

-- the parts of a number, the lowest first
abbrev in32 : ℕ → ℕ → ℕ
in32 a b = b * 0x1_0000_0000 + a

abbrev in16 : ℕ → ℕ → ℕ → ℕ → ℕ
in16 a b c d = ((d * 0x1_0000 + c) * 0x1_0000 + b) * 0x1_0000 + a

abbrev in8 : ℕ → ℕ → ℕ → ℕ → ℕ → ℕ → ℕ → ℕ → ℕ
in8 a b c d e f g h = ((((((h * 0x100 + g) * 0x100 + f) * 0x100 + e) * 0x100 + d) * 0x100 + c) * 0x100 + b) * 0x100 + a

-- what each mask leaves
halves_left : (p q : ℕ) → p < 0x1_0000 → q < 0x1_0000 → bit_and (in32 p q / 0x100) 0xff_0000_00ff ≡ in32 (p / 0x100) (q / 0x100)
halves_left p q h k = half q p 0xff h ∙ ap (λ (z : ℕ). z * 0x1_0000_0000 + p / 0x100) (only 8 (q / 0x100) (omega arith))

firsts_left : (a b c d : ℕ) → a < 0x100 → b < 0x100 → c < 0x100 → d < 0x100 → bit_and (in16 a b c d / 0x10) 0xf_000f_000f_000f ≡ in16 (a / 0x10) (b / 0x10) (c / 0x10) (d / 0x10)
firsts_left a b c d ha hb hc hd =
    first ((d * 0x1_0000 + c) * 0x1_0000 + b) a 0xf_000f_000f ha
    ∙ ap (λ (z : ℕ). z * 0x1_0000 + a / 0x10)
    (first (d * 0x1_0000 + c) b 0xf_000f hb
    ∙ ap (λ (z : ℕ). z * 0x1_0000 + b / 0x10)
    (first d c 0xf hc ∙ ap (λ (z : ℕ). z * 0x1_0000 + c / 0x10) (only 4 (d / 0x10) (omega arith))))

carries_left : (a b c d e f g h : ℕ) → a < 0x20 → b < 0x20 → c < 0x20 → d < 0x20 → e < 0x20 → f < 0x20 → g < 0x20 → h < 0x20
    → bit_and (in8 a b c d e f g h / 0x10) 0x101_0101_0101_0101 ≡ in8 (a / 0x10) (b / 0x10) (c / 0x10) (d / 0x10) (e / 0x10) (f / 0x10) (g / 0x10) (h / 0x10)
carries_left a b c d e f g h ha hb hc hd he hf hg hh =
    carry ((((((h * 0x100 + g) * 0x100 + f) * 0x100 + e) * 0x100 + d) * 0x100 + c) * 0x100 + b) a 0x1_0101_0101_0101 ha
    ∙ ap (λ (z : ℕ). z * 0x100 + a / 0x10)
    (carry (((((h * 0x100 + g) * 0x100 + f) * 0x100 + e) * 0x100 + d) * 0x100 + c) b 0x101_0101_0101 hb
    ∙ ap (λ (z : ℕ). z * 0x100 + b / 0x10)
    (carry ((((h * 0x100 + g) * 0x100 + f) * 0x100 + e) * 0x100 + d) c 0x1_0101_0101 hc
    ∙ ap (λ (z : ℕ). z * 0x100 + c / 0x10)
    (carry (((h * 0x100 + g) * 0x100 + f) * 0x100 + e) d 0x101_0101 hd
    ∙ ap (λ (z : ℕ). z * 0x100 + d / 0x10)
    (carry ((h * 0x100 + g) * 0x100 + f) e 0x1_0101 he
    ∙ ap (λ (z : ℕ). z * 0x100 + e / 0x10)
    (carry (h * 0x100 + g) f 0x101 hf
    ∙ ap (λ (z : ℕ). z * 0x100 + f / 0x10)
    (carry h g 1 hg
    ∙ ap (λ (z : ℕ). z * 0x100 + g / 0x10)
    (only 1 (h / 0x10) (omega arith))))))))

-- ---- the steps: each part less what its first half has too much

spread32 : (p q : ℕ) → in32 p q * 0x1_0000 - in32 (p / 0x100) (q / 0x100) * 0xff_ffff ≡ in16 (p / 0x100) (p % 0x100) (q / 0x100) (q % 0x100)
spread32 p q = omega arith

spread16 : (a b c d : ℕ)
    → in16 a b c d * 0x100 - in16 (a / 0x10) (b / 0x10) (c / 0x10) (d / 0x10) * 0xfff
    ≡ in8 (a / 0x10) (a % 0x10) (b / 0x10) (b % 0x10) (c / 0x10) (c % 0x10) (d / 0x10) (d % 0x10)
spread16 a b c d = omega arith

-- the code of the digit d, with the carry c out of d + 6
abbrev code : ℕ → ℕ → ℕ
code d c = 48 + d + c * 39

code_is : (d : ℕ) → d < 0x10 → code d ((d + 6) / 0x10) ≡ glyph d
code_is d h = elim (dec_lt d 10) [
  | yes p ↦ rw (lt-ltb d 10 p) (omega arith)
  | no p ↦ rw (le-ltb d 10 (omega arith)) (omega arith)
]

raised : (a b c d e f g h : ℕ) → in8 a b c d e f g h + 0x606_0606_0606_0606 ≡ in8 (a + 6) (b + 6) (c + 6) (d + 6) (e + 6) (f + 6) (g + 6) (h + 6)
raised a b c d e f g h = omega arith

summed : (a b c d e f g h a' b' c' d' e' f' g' h' : ℕ)
    → in8 a b c d e f g h + 0x3030_3030_3030_3030 + in8 a' b' c' d' e' f' g' h' * 39
    ≡ in8 (code a a') (code b b') (code c c') (code d d') (code e e') (code f f') (code g g') (code h h')
summed a b c d e f g h a' b' c' d' e' f' g' h' = omega arith

worded : (a b c d e f g h : ℕ) → in8 a b c d e f g h ≡ from_le_bytes w64 (a ∷ b ∷ c ∷ d ∷ e ∷ f ∷ g ∷ h ∷ [])
worded a b c d e f g h = omega arith

-- from the digits to their codes
abbrev coded : ℕ → ℕ
coded n = n + 0x3030_3030_3030_3030 + bit_and ((n + 0x606_0606_0606_0606) / 0x10) 0x101_0101_0101_0101 * 39

codes_are : (a b c d e f g h : ℕ) → a < 0x10 → b < 0x10 → c < 0x10 → d < 0x10 → e < 0x10 → f < 0x10 → g < 0x10 → h < 0x10
    → coded (in8 a b c d e f g h) ≡ from_le_bytes w64 (glyph a ∷ glyph b ∷ glyph c ∷ glyph d ∷ glyph e ∷ glyph f ∷ glyph g ∷ glyph h ∷ [])
codes_are a b c d e f g h ha hb hc hd he hf hg hh =
    ap (λ (z : ℕ). in8 a b c d e f g h + 0x3030_3030_3030_3030 + z * 39)
    (ap (λ (z : ℕ). bit_and (z / 0x10) 0x101_0101_0101_0101) (raised a b c d e f g h)
    ∙ carries_left (a + 6) (b + 6) (c + 6) (d + 6) (e + 6) (f + 6) (g + 6) (h + 6) (omega arith) (omega arith) (omega arith) (omega arith) (omega arith) (omega arith) (omega arith) (omega arith))
    ∙ summed a b c d e f g h ((a + 6) / 0x10) ((b + 6) / 0x10) ((c + 6) / 0x10) ((d + 6) / 0x10) ((e + 6) / 0x10) ((f + 6) / 0x10) ((g + 6) / 0x10) ((h + 6) / 0x10)
    ∙ rw (code_is a ha, code_is b hb, code_is c hc, code_is d hd, code_is e he, code_is f hf, code_is g hg, code_is h hh) (worded (glyph a) (glyph b) (glyph c) (glyph d) (glyph e) (glyph f) (glyph g) (glyph h))

-- bounds, for the code's own sums and products
in16_lt : (a b c d : ℕ) → a < 0x100 → b < 0x100 → c < 0x100 → d < 0x100 → in16 a b c d < 0x100_0000_0000_0000
in16_lt a b c d ha hb hc hd = omega arith

in8_le : (a b c d e f g h : ℕ) → a < 0x10 → b < 0x10 → c < 0x10 → d < 0x10 → e < 0x10 → f < 0x10 → g < 0x10 → h < 0x10 → in8 a b c d e f g h ≤ 0xf0f_0f0f_0f0f_0f0f
in8_le a b c d e f g h ha hb hc hd he hf hg hh = omega arith

-- ---- the bytes of a number in parts of 8

glyph_lt : (n : ℕ) → glyph (n % 16) < 0x100
glyph_lt n = elim (dec_lt (n % 16) 10) [
  | yes p ↦ rw (lt-ltb (n % 16) 10 p) (omega arith)
  | no p ↦ rw (le-ltb (n % 16) 10 (omega arith)) (omega arith)
]

hex_lt : (k x i : ℕ) → get_or (hex k x) i 0 < 0x100
unfolding hex
hex_lt zero x i = omega arith
hex_lt (suc k) x zero = glyph_lt (x / 16 ^ k)
hex_lt (suc k) x (suc i) = hex_lt k x i

pub hex_bytes : (x w : ℕ) → w ≡ from_le_bytes w64 (hex 8 x) → to_le_bytes w64 w ≡ hex 8 x
unfolding hex
hex_bytes x w p = le_bytes_8 (hex 8 x) w refl (hex_lt 8 x) p

-- ---- as the code has them

abbrev pub halves : ℕ → ℕ
halves x = x * 0x1_0000_0000 - x / 0x1_0000 * 0xffff_ffff_ffff

abbrev pub halves_mask : ℕ → ℕ
halves_mask x = bit_and (halves x / 0x100) 0xff_0000_00ff

abbrev pub bytes : ℕ → ℕ
bytes x = halves x * 0x1_0000 - halves_mask x * 0xff_ffff

abbrev pub bytes_mask : ℕ → ℕ
bytes_mask x = bit_and (bytes x / 0x10) 0xf_000f_000f_000f

abbrev pub digits : ℕ → ℕ
digits x = bytes x * 0x100 - bytes_mask x * 0xfff

abbrev pub carries : ℕ → ℕ
carries x = bit_and ((digits x + 0x606_0606_0606_0606) / 0x10) 0x101_0101_0101_0101

module _ (x : ℕ) (l : x < 0x1_0000_0000) where
  abbrev p : ℕ
  p = x / 0x1_0000

  abbrev q : ℕ
  q = x % 0x1_0000

  pub halves_are : halves x ≡ in32 p q
  halves_are = omega arith

  pub halves_masked : halves_mask x ≡ in32 (p / 0x100) (q / 0x100)
  halves_masked = ap (λ (z : ℕ). bit_and (z / 0x100) 0xff_0000_00ff) halves_are ∙ halves_left p q (omega arith) (omega arith)

  pub bytes_are : bytes x ≡ in16 (p / 0x100) (p % 0x100) (q / 0x100) (q % 0x100)
  bytes_are = ap₂ (λ (y z : ℕ). y * 0x1_0000 - z * 0xff_ffff) halves_are halves_masked ∙ spread32 p q

  abbrev e₀ : ℕ
  e₀ = p / 0x100

  abbrev e₁ : ℕ
  e₁ = p % 0x100

  abbrev e₂ : ℕ
  e₂ = q / 0x100

  abbrev e₃ : ℕ
  e₃ = q % 0x100

  pub bytes_lt : bytes x < 0x100_0000_0000_0000
  bytes_lt = le_trans (le_of_eq (ap suc bytes_are)) (in16_lt e₀ e₁ e₂ e₃ (omega arith) (omega arith) (omega arith) (omega arith))

  pub bytes_masked : bytes_mask x ≡ in16 (e₀ / 0x10) (e₁ / 0x10) (e₂ / 0x10) (e₃ / 0x10)
  bytes_masked = ap (λ (z : ℕ). bit_and (z / 0x10) 0xf_000f_000f_000f) bytes_are ∙ firsts_left e₀ e₁ e₂ e₃ (omega arith) (omega arith) (omega arith) (omega arith)

  pub digits_are : digits x ≡ in8 (e₀ / 0x10) (e₀ % 0x10) (e₁ / 0x10) (e₁ % 0x10) (e₂ / 0x10) (e₂ % 0x10) (e₃ / 0x10) (e₃ % 0x10)
  digits_are = ap₂ (λ (y z : ℕ). y * 0x100 - z * 0xfff) bytes_are bytes_masked ∙ spread16 e₀ e₁ e₂ e₃

  pub digits_le : digits x ≤ 0xf0f_0f0f_0f0f_0f0f
  digits_le = le_trans (le_of_eq digits_are) (in8_le (e₀ / 0x10) (e₀ % 0x10) (e₁ / 0x10) (e₁ % 0x10) (e₂ / 0x10) (e₂ % 0x10) (e₃ / 0x10) (e₃ % 0x10) (omega arith) (omega arith) (omega arith) (omega arith) (omega arith) (omega arith) (omega arith) (omega arith))

  pub carries_le : carries x ≤ 0x101_0101_0101_0101
  carries_le = and_le_r ((digits x + 0x606_0606_0606_0606) / 0x10) 0x101_0101_0101_0101

  hexed : glyph (e₀ / 0x10) ∷ glyph (e₀ % 0x10) ∷ glyph (e₁ / 0x10) ∷ glyph (e₁ % 0x10) ∷ glyph (e₂ / 0x10) ∷ glyph (e₂ % 0x10) ∷ glyph (e₃ / 0x10) ∷ glyph (e₃ % 0x10) ∷ [] ≡ hex 8 x
  unfolding hex
  hexed = rw ((let t : e₀ / 0x10 ≡ x / 268435456 % 16 = omega arith in t), (let t : e₀ % 0x10 ≡ x / 16777216 % 16 = omega arith in t), (let t : e₁ / 0x10 ≡ x / 1048576 % 16 = omega arith in t), (let t : e₁ % 0x10 ≡ x / 65536 % 16 = omega arith in t), (let t : e₂ / 0x10 ≡ x / 4096 % 16 = omega arith in t), (let t : e₂ % 0x10 ≡ x / 256 % 16 = omega arith in t), (let t : e₃ / 0x10 ≡ x / 16 % 16 = omega arith in t), (let t : e₃ % 0x10 ≡ x / 1 % 16 = omega arith in t)) refl

  pub glyphs_are : coded (digits x) ≡ from_le_bytes w64 (hex 8 x)
  glyphs_are =
      ap coded digits_are
      ∙ codes_are (e₀ / 0x10) (e₀ % 0x10) (e₁ / 0x10) (e₁ % 0x10) (e₂ / 0x10) (e₂ % 0x10) (e₃ / 0x10) (e₃ % 0x10) (omega arith) (omega arith) (omega arith) (omega arith) (omega arith) (omega arith) (omega arith) (omega arith)
      ∙ ap (from_le_bytes w64) hexed
