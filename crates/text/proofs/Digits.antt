-- Digits, as the code has them: how many, the last of them, and two halves of eight; a number's front and its last digits, one after the other.
use mathlib.Core.Path.{◌≡◌, refl, sym, ap, ap₂, ◌∙◌}
use mathlib.Core.List.{List, [], ◌∷◌, ◌++◌, append_assoc, append-nil}
use Prim.Native.Nat.{ℕ, zero, suc, ◌+◌, ◌*◌, ◌/◌, ◌%◌, ◌^◌, ◌≤◌, ◌<◌}
use native.Mathlib.Nat.{div-div-eq-div-mul, div-add-mod', pow-suc, suc-add, zero-add}
use native.Mathlib.Decide.{dec_lt}
use native.Mathlib.Omega.{arith}
use lib.ListN.{length, length-append}
use lib.Ieee.{Float}
use borrow.Author.Tests.{lt-ltb, le-ltb}
use Rattle.text.specs.Digits.{digit, hex, digits, decimals, decimal, float}

-- ---- hexadecimal digits

pub hex_halves : (x : ℕ) → hex 8 (x / 0x1_0000_0000) ++ hex 8 (x % 0x1_0000_0000) ≡ hex 16 x
unfolding hex
hex_halves x = simp (div-div-eq-div-mul, (let t : x % 0x1_0000_0000 / 268435456 % 16 ≡ x / 268435456 % 16 = omega arith in t), (let t : x % 0x1_0000_0000 / 16777216 % 16 ≡ x / 16777216 % 16 = omega arith in t), (let t : x % 0x1_0000_0000 / 1048576 % 16 ≡ x / 1048576 % 16 = omega arith in t), (let t : x % 0x1_0000_0000 / 65536 % 16 ≡ x / 65536 % 16 = omega arith in t), (let t : x % 0x1_0000_0000 / 4096 % 16 ≡ x / 4096 % 16 = omega arith in t), (let t : x % 0x1_0000_0000 / 256 % 16 ≡ x / 256 % 16 = omega arith in t), (let t : x % 0x1_0000_0000 / 16 % 16 ≡ x / 16 % 16 = omega arith in t), (let t : x % 0x1_0000_0000 / 1 % 16 ≡ x / 1 % 16 = omega arith in t))

pub float_length : (x : Float) → length (float x) ≡ 17
unfolding float hex
float_length x = refl

-- ---- the last decimal digits

-- two more of them, one more, or none, before the text w
pub two_more : (k n : ℕ) (w : List ℕ) {m : ℕ} → m ≡ suc (suc k) → digits m n ++ w ≡ digits k (n / 100) ++ digit (n % 100 / 10) ∷ digit (n % 100 % 10) ∷ w
unfolding digits
two_more k n w e =
    let p : n / 10 / 10 ≡ n / 100 = omega arith in
    let q : n / 10 % 10 ≡ n % 100 / 10 = omega arith in
    let r : n % 10 ≡ n % 100 % 10 = omega arith in
    ap (λ (m : ℕ). digits m n ++ w) e
    ∙ append_assoc (digits k (n / 10 / 10) ++ digit (n / 10 % 10) ∷ []) (digit (n % 10) ∷ []) w
    ∙ append_assoc (digits k (n / 10 / 10)) (digit (n / 10 % 10) ∷ []) (digit (n % 10) ∷ w)
    ∙ rw (p, q, r) refl

-- four of them, as two pairs
pub four_more : (k n : ℕ) (w : List ℕ) {m : ℕ} → m ≡ suc (suc (suc (suc k))) → digits m n ++ w ≡ digits k (n / 10000) ++ digit (n % 10000 / 100 / 10) ∷ digit (n % 10000 / 100 % 10) ∷ digit (n % 10000 % 100 / 10) ∷ digit (n % 10000 % 100 % 10) ∷ w
four_more k n w e =
    let p : n / 100 / 100 ≡ n / 10000 = omega arith in
    let q : n / 100 % 100 ≡ n % 10000 / 100 = omega arith in
    let r : n % 100 ≡ n % 10000 % 100 = omega arith in
    two_more (suc (suc k)) n w e ∙ two_more k (n / 100) _ refl ∙ rw (p, q, r) refl

pub one_more : (n : ℕ) (w : List ℕ) {m : ℕ} → m ≡ 1 → digits m n ++ w ≡ digit (n % 10) ∷ w
unfolding digits
one_more n w e = ap (λ (m : ℕ). digits m n ++ w) e

pub none_more : (n : ℕ) (w : List ℕ) {m : ℕ} → m ≡ 0 → digits m n ++ w ≡ w
unfolding digits
none_more n w e = ap (λ (m : ℕ). digits m n ++ w) e

pub digits_length : (k n : ℕ) → length (digits k n) ≡ k
unfolding digits
digits_length zero n = refl
digits_length (suc k) n = length-append (digits k (n / 10)) (digit (n % 10) ∷ []) ∙ (let h = digits_length k (n / 10) in omega arith)

ten_pos : (k : ℕ) → 0 < 10 ^ k
ten_pos zero = omega arith
ten_pos (suc k) = let e = pow-suc 10 k in let h = ten_pos k in omega arith

-- what a digit more in the second part does to n = a * 10 ^ suc k + b
tenth : (k a b : ℕ) → ((a * 10 ^ suc k + b) / 10 ≡ a * 10 ^ k + b / 10) × ((a * 10 ^ suc k + b) % 10 ≡ b % 10)
tenth k a b =
    let q : a * 10 ^ suc k ≡ a * (10 ^ k * 10) = ap (λ (x : ℕ). a * x) (pow-suc 10 k) in
    (omega arith, omega arith)

pub join : (k j a b : ℕ) → b < 10 ^ k → digits (k + j) (a * 10 ^ k + b) ≡ digits j a ++ digits k b
unfolding digits
join zero j a b h =
    let e : a * 1 + b ≡ a = omega arith in
    ap₂ digits (zero-add j) e ∙ sym (append-nil (digits j a))
join (suc k) j a b h =
    let p = pow-suc 10 k in
    let t = tenth k a b in
    ap (λ (m : ℕ). digits m (a * 10 ^ suc k + b)) (suc-add k j)
    ∙ ap₂ (λ (x y : ℕ). digits (k + j) x ++ digit y ∷ []) t.0 t.1
    ∙ ap (λ (u : List ℕ). u ++ digit (b % 10) ∷ []) (join k j a (b / 10) (omega arith))
    ∙ append_assoc (digits j a) (digits k (b / 10)) (digit (b % 10) ∷ [])

-- ---- no zero in front

last : (k n : ℕ) → n < 10 → decimals (suc k) n ≡ digit n ∷ []
unfolding decimals
last k n h = rw (lt-ltb n 10 h)

more : (k n : ℕ) → 10 ≤ n → decimals (suc k) n ≡ decimals k (n / 10) ++ digit (n % 10) ∷ []
unfolding decimals
more k n h = rw (le-ltb n 10 h)

more_length : (k n : ℕ) → 10 ≤ n → length (decimals (suc k) n) ≡ suc (length (decimals k (n / 10)))
more_length k n h = ap length (more k n h) ∙ length-append (decimals k (n / 10)) (digit (n % 10) ∷ []) ∙ omega arith

-- as many of the last digits are all of them
all_digits : (k n : ℕ) → digits (length (decimals k n)) n ≡ decimals k n
unfolding digits decimals
all_digits zero n = refl
all_digits (suc k) n = elim (dec_lt n 10) [
  | yes p ↦ rw (last k n p) (ap (λ (d : ℕ). digit d ∷ []) (omega arith))
  | no p ↦ ap (λ (m : ℕ). digits m n) (more_length k n (omega arith)) ∙ ap (λ (t : List ℕ). t ++ digit (n % 10) ∷ []) (all_digits k (n / 10)) ∙ sym (more k n (omega arith))
]

pub decimal_digits : (n : ℕ) → digits (length (decimal n)) n ≡ decimal n
unfolding decimal
decimal_digits n = all_digits 20 n

-- how many they are
decimals_count : (k m n : ℕ) → k < m → 10 ^ k ≤ n → n < 10 ^ suc k → length (decimals m n) ≡ suc k
decimals_count zero (suc m) n b l h = ap length (last m n h)
decimals_count (suc k) (suc m) n b l h =
    let e = pow-suc 10 k in
    let f = pow-suc 10 (suc k) in
    let z = ten_pos k in
    more_length m n (omega arith) ∙ ap suc (decimals_count k m (n / 10) (omega arith) (omega arith) (omega arith))
decimals_count k zero n b l h = absurd (let z : ⊥ = omega arith in z)

pub decimal_count : (k n : ℕ) → k < 20 → 10 ^ k ≤ n → n < 10 * 10 ^ k → k + 1 ≡ length (decimal n)
unfolding decimal
decimal_count k n b l h = let p = pow-suc 10 k in let e = decimals_count k 20 n b l (omega arith) in omega arith

decimals_length : (k n : ℕ) → length (decimals k n) ≤ k
unfolding decimals
decimals_length zero n = omega arith
decimals_length (suc k) n = elim (dec_lt n 10) [
  | yes p ↦ rw (last k n p) (omega arith)
  | no p ↦ rw (more_length k n (omega arith)) (let h = decimals_length k (n / 10) in omega arith)
]

pub decimal_most : (n : ℕ) → length (decimal n) ≤ 20
unfolding decimal
decimal_most n = decimals_length 20 n

decimals_at_most : (k m n : ℕ) → n < 10 ^ suc k → length (decimals m n) ≤ suc k
unfolding decimals
decimals_at_most k zero n h = omega arith
decimals_at_most zero (suc m) n h = rw (last m n h) (omega arith)
decimals_at_most (suc k) (suc m) n h = elim (dec_lt n 10) [
  | yes p ↦ rw (last m n p) (omega arith)
  | no p ↦ let e = pow-suc 10 (suc k) in rw (more_length m n (omega arith)) (let l = decimals_at_most k m (n / 10) (omega arith) in omega arith)
]

pub decimal_length : (k n : ℕ) → n < 10 ^ suc k → k ≤ 19 → length (decimal n) ≤ suc k
unfolding decimal
decimal_length k n h l = decimals_at_most k 20 n h

-- ---- a front and the digits behind it

join_decimals : (k j a b : ℕ) → 0 < a → b < 10 ^ k → decimals (k + j) (a * 10 ^ k + b) ≡ decimals j a ++ digits k b
unfolding digits
join_decimals zero j a b l h =
    let e : a * 1 + b ≡ a = omega arith in
    ap₂ decimals (zero-add j) e ∙ sym (append-nil (decimals j a))
join_decimals (suc k) j a b l h =
    let p = pow-suc 10 k in
    let q : a * 10 ^ suc k ≡ a * (10 ^ k * 10) = ap (λ (x : ℕ). a * x) p in
    let t = tenth k a b in
    let w : 10 ^ k ≤ a * 10 ^ k = once a (10 ^ k) l in
    let z = ten_pos k in
    ap (λ (m : ℕ). decimals m (a * 10 ^ suc k + b)) (suc-add k j)
    ∙ more (k + j) (a * 10 ^ suc k + b) (omega arith)
    ∙ ap₂ (λ (x y : ℕ). decimals (k + j) x ++ digit y ∷ []) t.0 t.1
    ∙ ap (λ (u : List ℕ). u ++ digit (b % 10) ∷ []) (join_decimals k j a (b / 10) l (omega arith))
    ∙ append_assoc (decimals j a) (digits k (b / 10)) (digit (b % 10) ∷ [])
  where
    once : (a p : ℕ) → 0 < a → p ≤ a * p
    once (suc a) p h = omega arith
    once zero p h = absurd (let z : ⊥ = omega arith in z)

-- a number below 10 ^ suc k has its digits under any greater bound
fewer : (k m n : ℕ) → n < 10 ^ suc k → k ≤ m → decimals (suc m) n ≡ decimals (suc k) n
fewer zero m n h l = last m n h ∙ sym (last 0 n h)
fewer (suc k) zero n h l = absurd (let z : ⊥ = omega arith in z)
fewer (suc k) (suc m) n h l =
    let e = pow-suc 10 (suc k) in
    elim (dec_lt n 10) [
      | yes p ↦ last (suc m) n p ∙ sym (last (suc k) n p)
      | no p ↦ more (suc m) n (omega arith) ∙ ap (λ (u : List ℕ). u ++ digit (n % 10) ∷ []) (fewer k m (n / 10) (omega arith) (omega arith)) ∙ sym (more (suc k) n (omega arith))
    ]

pub one_digit : (n : ℕ) → n < 10 → digit n ∷ [] ≡ decimal n
unfolding decimal
one_digit n h = sym (last 19 n h)

pub two_digits : (n : ℕ) → 10 ≤ n → n < 100 → digits 2 n ≡ decimal n
unfolding decimal digits
two_digits n l h =
    let e : n / 10 % 10 ≡ n / 10 = omega arith in
    sym (more 19 n l ∙ ap (λ (t : List ℕ). t ++ digit (n % 10) ∷ []) (last 18 (n / 10) (omega arith) ∙ ap (λ (m : ℕ). digit m ∷ []) (sym e)))

-- k digits before k others
pub halves : (k n : ℕ) → n % 10 ^ k < 10 ^ k → digits k (n / 10 ^ k) ++ digits k (n % 10 ^ k) ≡ digits (k + k) n
halves k n h = sym (join k k (n / 10 ^ k) (n % 10 ^ k) h) ∙ ap (digits (k + k)) (div-add-mod' n (10 ^ k))

-- a front of at most suc j digits, and k others
pub front : (k j n : ℕ) → k + suc j ≡ 20 → 0 < n / 10 ^ k → n / 10 ^ k < 10 ^ suc j → n % 10 ^ k < 10 ^ k → decimal (n / 10 ^ k) ++ digits k (n % 10 ^ k) ≡ decimal n
unfolding decimal
front k j n e a b c =
    ap (λ (t : List ℕ). t ++ digits k (n % 10 ^ k)) (fewer j 19 (n / 10 ^ k) b (omega arith))
    ∙ sym (join_decimals k (suc j) (n / 10 ^ k) (n % 10 ^ k) a c)
    ∙ ap₂ decimals e (div-add-mod' n (10 ^ k))
