-- Past the end of the bytes every number is 0.
use mathlib.Core.Path.{◌≡◌}
use mathlib.Core.List.{List}
use Prim.Native.Nat.{ℕ, ◌+◌, ◌≤◌}
use native.Mathlib.Omega.{arith}
use lib.ListN.{length, get_or-eq_default}
use Rattle.record.specs.Bytes.{le16, le32, le64}

module _ (b : List ℕ) where
  pub none16 : (i : ℕ) → length b ≤ i → le16 b i ≡ 0
  unfolding le16
  none16 i h = simp (get_or-eq_default b 0 {n = i} h, get_or-eq_default b 0 {n = i + 1} (omega arith))

  pub none32 : (i : ℕ) → length b ≤ i → le32 b i ≡ 0
  unfolding le32
  none32 i h = simp (none16 i h, none16 (i + 2) (omega arith))

  pub none64 : (i : ℕ) → length b ≤ i → le64 b i ≡ 0
  unfolding le64
  none64 i h = simp (none32 i h, none32 (i + 4) (omega arith))
