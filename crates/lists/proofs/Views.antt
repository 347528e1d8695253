-- A view's lookup by position, as laws: the inverted list is the reversal of the forward list, and a part of a record lists that part.
use mathlib.Core.Path.{◌≡◌, refl, sym, ap, ◌∙◌}
use Prim.Native.Nat.{ℕ, suc, ◌+◌, ◌-◌, ◌%◌, ◌<◌, ◌≤◌}
use native.Mathlib.Nat.{mod-add-mod, add_assoc}
use native.Mathlib.Decide.{dec_lt}
use native.Mathlib.Omega.{arith}
use borrow.Author.Tests.{lt-ltb, le-ltb, eq-eqb, ne_eqb}
use Rattle.lists.specs.Plain.{Vert, with_bulge, turn_at, trim_at}
use Rattle.lists.specs.View.{View, forward, backward, part}

-- where position k of a view with offset o is: the first vertex, one between, the last of the outline, the end point
pub data Place (o k : ℕ) : Type 0 where
  first : k ≡ 0 → Place o k
  inner : 0 < k → k < o → Place o k
  final : 0 < o → k ≡ o → Place o k
  past : k ≡ o + 1 → Place o k

pub place : (o k : ℕ) → k < o + 2 → Place o k
place o k h = go (dec_lt 0 k) (dec_lt k o) (dec_lt k (o + 1))
  where
    go : Dec (0 < k) → Dec (k < o) → Dec (k < o + 1) → Place o k
    go (no p) q s = first (omega arith)
    go (yes p) (yes q) s = inner p q
    go (yes p) (no q) (yes s) = final (omega arith) (omega arith)
    go (yes p) (no q) (no s) = past (omega arith)

module _ {A : Type 0} (z : A) (src : ℕ → Vert A) (n : ℕ) (r : View A) where
  abbrev F : ℕ → Vert A
  F = forward z src n r

  -- the vertex of the outline k places past the start
  abbrev G : ℕ → Vert A
  G k = src ((r.start + k) % n)

  pub at_first : F 0 ≡ r.first
  unfolding forward
  at_first = refl

  pub at_inner : (k : ℕ) → 0 < k → k < r.offset → F k ≡ G k
  unfolding forward
  at_inner k p q = simp (ne_eqb k 0 (omega arith), lt-ltb k r.offset q)

  pub at_final : 0 < r.offset → F r.offset ≡ with_bulge (G r.offset) r.end_bulge
  unfolding forward
  at_final p = simp (ne_eqb r.offset 0 (omega arith), le-ltb r.offset r.offset (omega arith), eq-eqb r.offset r.offset refl)

  pub at_past : F (r.offset + 1) ≡ record { x = r.end_x; y = r.end_y; bulge = z }
  unfolding forward
  at_past = simp (ne_eqb (r.offset + 1) 0 (omega arith), le-ltb (r.offset + 1) r.offset (omega arith), ne_eqb (r.offset + 1) r.offset (omega arith))

  -- the position of a vertex of the outline, whatever its bulge
  pub at_pos : (k : ℕ) (b : A) → 0 < k → k ≤ r.offset → with_bulge (F k) b ≡ with_bulge (G k) b
  at_pos k b p q = go (dec_lt k r.offset)
    where
      go : Dec (k < r.offset) → with_bulge (F k) b ≡ with_bulge (G k) b
      go (yes h) = rw (at_inner k p h)
      go (no h) =
          let e : k ≡ r.offset = omega arith in
          rw (e, at_final (omega arith))

  -- the last segment's bulge
  pub at_end_bulge : (r.offset ≡ 0 → r.first.bulge ≡ r.end_bulge) → (F r.offset).bulge ≡ r.end_bulge
  at_end_bulge even = go (dec_lt 0 r.offset)
    where
      go : Dec (0 < r.offset) → (F r.offset).bulge ≡ r.end_bulge
      go (yes h) = rw (at_final h)
      go (no h) =
          let e : r.offset ≡ 0 = omega arith in
          ap (λ (m : ℕ). (F m).bulge) e ∙ ap (λ (v : Vert A). v.bulge) at_first ∙ even e

-- and of the inverted list
module _ {A : Type 0} (neg : A → A) (z : A) (src : ℕ → Vert A) (n : ℕ) (r : View A) where
  pub back_first : backward neg z src n r 0 ≡ record { x = r.end_x; y = r.end_y; bulge = neg r.end_bulge }
  unfolding backward
  back_first = refl

  pub back_inner : (k : ℕ) → 0 < k → k < r.offset → backward neg z src n r k ≡ with_bulge (src ((((r.start + (r.offset - k)) % n) + 1) % n)) (neg (G z src n r (r.offset - k)).bulge)
  unfolding backward
  back_inner k p q = simp (ne_eqb k 0 (omega arith), lt-ltb k r.offset q)

  pub back_final : (k : ℕ) → 0 < k → k ≡ r.offset → backward neg z src n r k ≡ with_bulge (G z src n r (r.offset - k + 1)) (neg r.first.bulge)
  unfolding backward
  back_final k p e = simp (ne_eqb k 0 (omega arith), le-ltb k r.offset (omega arith), eq-eqb k r.offset e)

  pub back_past : (k : ℕ) → r.offset < k → backward neg z src n r k ≡ with_bulge r.first z
  unfolding backward
  back_past k p = simp (ne_eqb k 0 (omega arith), le-ltb k r.offset (omega arith), ne_eqb k r.offset (omega arith))

  -- the inverted list is the reversal of the forward list
  module _ (even : r.offset ≡ 0 → r.first.bulge ≡ r.end_bulge) where
    pub back_turn : (k : ℕ) → k < r.offset + 2 → backward neg z src n r k ≡ turn_at neg z (F z src n r) (r.offset + 2) k
    unfolding backward turn_at
    back_turn k h = go (place r.offset k h)
      where
        go : Place r.offset k → backward neg z src n r k ≡ turn_at neg z (F z src n r) (r.offset + 2) k
        go (first e) =
            let e₁ : r.offset + 2 - 1 ≡ r.offset + 1 = omega arith in
            let e₂ : r.offset + 2 - 2 ≡ r.offset = omega arith in
            simp (e, e₁, e₂, lt-ltb 1 (r.offset + 2) (omega arith), at_past z src n r, at_end_bulge z src n r even)
        go (inner p q) =
            let e₁ : r.offset + 2 - suc k ≡ r.offset - k + 1 = omega arith in
            let e₂ : r.offset + 2 - suc (suc k) ≡ r.offset - k = omega arith in
            simp (ne_eqb k 0 (omega arith), lt-ltb k r.offset q, e₁, e₂, lt-ltb (suc k) (r.offset + 2) (omega arith), at_inner z src n r (r.offset - k) (omega arith) (omega arith), mod-add-mod, add_assoc)
            (sym (at_pos z src n r (r.offset - k + 1) _ (omega arith) (omega arith)))
        go (final p e) =
            let e₁ : r.offset + 2 - suc k ≡ 1 = omega arith in
            let e₂ : r.offset + 2 - suc (suc k) ≡ 0 = omega arith in
            let e₃ : r.offset - k + 1 ≡ 1 = omega arith in
            simp (ne_eqb k 0 (omega arith), le-ltb k r.offset (omega arith), eq-eqb k r.offset e, e₁, e₂, e₃, lt-ltb (suc k) (r.offset + 2) (omega arith), at_first z src n r)
            (sym (at_pos z src n r 1 _ (omega arith) (omega arith)))
        go (past e) =
            let e₁ : r.offset + 2 - suc k ≡ 0 = omega arith in
            simp (ne_eqb k 0 (omega arith), le-ltb k r.offset (omega arith), ne_eqb k r.offset (omega arith), e₁, le-ltb (suc k) (r.offset + 2) (omega arith), at_first z src n r)

module _ {A : Type 0} (z : A) (src : ℕ → Vert A) (n : ℕ) (r : View A) (a b : ℕ) (below : a < b) (within : b ≤ r.offset + 1) where
  abbrev r' : View A
  r' = part z src n a b r

  -- from position a to position b, the new record lists what the old one does, up to the last bulge
  pub part_forward : (k : ℕ) → k < suc (b - a) → forward z src n r' k ≡ trim_at z (forward z src n r) a b k
  unfolding part trim_at
  part_forward k h = go (place (b - a - 1) k (omega arith))
    where
      go : Place (b - a - 1) k → forward z src n r' k ≡ trim_at z (forward z src n r) a b k
      go (first e) =
          let e₁ : a + k ≡ a = omega arith in
          simp (e₁, lt-ltb k (b - a) (omega arith)) (rw e (at_first z src n r'))
      go (inner p q) =
          simp (lt-ltb k (b - a) (omega arith), at_inner z src n r (a + k) (omega arith) (omega arith))
          (at_inner z src n r' k p q ∙ simp (mod-add-mod, add_assoc))
      go (final p e) =
          let e₁ : a + k ≡ b - 1 = omega arith in
          let e₂ : a + (b - a - 1) ≡ b - 1 = omega arith in
          simp (e₁, lt-ltb k (b - a) (omega arith)) (ap (forward z src n r') e ∙ at_final z src n r' p ∙ simp (mod-add-mod, add_assoc, e₂) (sym (at_pos z src n r (b - 1) _ (omega arith) (omega arith))))
      go (past e) =
          let e₁ : a + k ≡ b = omega arith in
          simp (e₁, le-ltb k (b - a) (omega arith)) (rw e (at_past z src n r'))
