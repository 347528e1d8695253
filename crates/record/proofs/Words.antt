-- A number's bytes, as std has them and as the definitions do.
use mathlib.Core.Path.{◌≡◌}
use mathlib.Core.List.{List}
use Prim.Native.Nat.{ℕ, ◌+◌, ◌/◌, ◌%◌, ◌≤◌, ◌<◌}
use native.Mathlib.Nat.{add-zero, div-div-eq-div-mul}
use native.Mathlib.Omega.{arith}
use lib.ListN.{get_or}
use Rattle.std.specs.Int.{w16, w32, w64, from_le_bytes, to_le_bytes}
use Rattle.record.specs.Bytes.{le16, le32, le64, bytes4, bytes8}

-- w is the bytes of b from `at` on
module _ (b w : List ℕ) (at n : ℕ) (h : (i : ℕ) → i < n → get_or w i 0 ≡ get_or b (at + i) 0) where
  pub from16 : 2 ≤ n → from_le_bytes w16 w ≡ le16 b at
  unfolding le16
  from16 l = rw (h 0 (omega arith), h 1 (omega arith), add-zero at) (omega arith)

  pub from32 : 4 ≤ n → from_le_bytes w32 w ≡ le32 b at
  unfolding le32 le16
  from32 l =
      let e : at + 2 + 1 ≡ at + 3 = omega arith in
      rw (h 0 (omega arith), h 1 (omega arith), h 2 (omega arith), h 3 (omega arith), add-zero at, e) (omega arith)

  pub from64 : 8 ≤ n → from_le_bytes w64 w ≡ le64 b at
  unfolding le64 le32 le16
  from64 l =
      let e : at + 2 + 1 ≡ at + 3 = omega arith in
      let e₁ : at + 4 + 1 ≡ at + 5 = omega arith in
      let e₂ : at + 4 + 2 ≡ at + 6 = omega arith in
      let e₃ : at + 6 + 1 ≡ at + 7 = omega arith in
      rw (h 0 (omega arith), h 1 (omega arith), h 2 (omega arith), h 3 (omega arith), h 4 (omega arith), h 5 (omega arith), h 6 (omega arith), h 7 (omega arith), add-zero at, e, e₁, e₂, e₃) (omega arith)

pub to64 : (n : ℕ) → to_le_bytes w64 n ≡ bytes8 n
unfolding bytes8 bytes4
to64 n = simp (div-div-eq-div-mul, (let t : n % 4294967296 % 256 ≡ n % 256 = omega arith in t), (let t : n % 4294967296 / 256 % 256 ≡ n / 256 % 256 = omega arith in t), (let t : n % 4294967296 / 65536 % 256 ≡ n / 65536 % 256 = omega arith in t), (let t : n % 4294967296 / 16777216 % 256 ≡ n / 16777216 % 256 = omega arith in t))
