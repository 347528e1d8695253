-- Reversing twice, and trimming after reversing, vertex by vertex and then on lists.
use mathlib.Core.Path.{◌≡◌, sym}
use Prim.Native.Nat.{ℕ, suc, ◌+◌, ◌-◌, ◌<◌, ◌≤◌}
use native.Mathlib.Decide.{dec_lt}
use native.Mathlib.Omega.{arith}
use mathlib.Core.Bool.{cond}
use lib.Dec.{ltb}
use borrow.Author.Tests.{lt-ltb, le-ltb}
use Rattle.lists.specs.Plain.{Vert, with_bulge, tab, at, turn_at, trim_at, turn_list, trim_list}
use Rattle.lists.proofs.Tab.{length_tab, get_d_tab, tab_ext}

module _ {A : Type 0} (neg : A → A) (z : A) where
  module _ (neg_neg : (a : A) → neg (neg a) ≡ a) where
    pub turn_turn : (f : ℕ → Vert A) (n k : ℕ) → (f (n - 1)).bulge ≡ z → k < n → turn_at neg z (turn_at neg z f n) n k ≡ f k
    unfolding turn_at
    turn_turn f n k last h = go (dec_lt (suc k) n)
      where
        e : n - suc (n - suc k) ≡ k
        e = omega arith

        go : Dec (suc k < n) → turn_at neg z (turn_at neg z f n) n k ≡ f k
        go (yes p) =
            let e₂ : n - suc (suc (n - suc (suc k))) ≡ k = omega arith in
            simp (lt-ltb (suc k) n p, lt-ltb (suc (n - suc (suc k))) n (omega arith), e, e₂, neg_neg)
        go (no p) =
            let e₂ : n - 1 ≡ k = omega arith in
            let last' : (f k).bulge ≡ z = rw e₂ at last in
            simp (le-ltb (suc k) n (omega arith), e) (λ i. record { x = (f k).x; y = (f k).y; bulge = sym last' i })

  pub trim_turn : (f : ℕ → Vert A) (n i j k : ℕ) → i < j → j < n → k ≤ j - i
      → trim_at z (turn_at neg z f n) i j k ≡ turn_at neg z (trim_at z f (n - suc j) (n - suc i)) (suc (j - i)) k
  unfolding turn_at trim_at
  trim_turn f n i j k hi hj h = go (dec_lt k (j - i))
    where
      e : n - suc j + (suc (j - i) - suc k) ≡ n - suc (i + k)
      e = omega arith

      go : Dec (k < j - i) → trim_at z (turn_at neg z f n) i j k ≡ turn_at neg z (trim_at z f (n - suc j) (n - suc i)) (suc (j - i)) k
      go (yes p) =
          let e₂ : n - suc j + (suc (j - i) - suc (suc k)) ≡ n - suc (suc (i + k)) = omega arith in
          simp (
            lt-ltb k (j - i) p,
            lt-ltb (suc (i + k)) n (omega arith),
            lt-ltb (suc k) (suc (j - i)) (omega arith),
            lt-ltb (suc (j - i) - suc (suc k)) (n - suc i - (n - suc j)) (omega arith),
            e,
            e₂,
          )
      go (no p) = simp (le-ltb k (j - i) (omega arith), le-ltb (suc k) (suc (j - i)) (omega arith), e)

module _ {A : Type 0} (z : A) where
  pub trim_tab : (f : ℕ → Vert A) (n i j : ℕ) → i < j → j < n → trim_list z i j (tab f n) ≡ tab (trim_at z f i j) (suc (j - i))
  unfolding trim_list trim_at
  trim_tab f n i j hi hj = tab_ext _ _ (suc (j - i)) (λ k h. rw (get_d_tab f n (i + k) _ (omega arith)))

module _ {A : Type 0} (neg : A → A) (z : A) where
  pub turn_tab : (f : ℕ → Vert A) (n : ℕ) → turn_list neg z (tab f n) ≡ tab (turn_at neg z f n) n
  unfolding turn_list turn_at
  turn_tab f n = rw length_tab (tab_ext _ _ n (λ k h.
      rw (get_d_tab f n (n - suc k) _ (omega arith)) (go k h (dec_lt (suc k) n))))
    where
      go : (k : ℕ) → k < n → Dec (suc k < n) → with_bulge (f (n - suc k)) (cond (ltb (suc k) n) (neg (at z (tab f n) (n - suc (suc k))).bulge) z) ≡ with_bulge (f (n - suc k)) (cond (ltb (suc k) n) (neg (f (n - suc (suc k))).bulge) z)
      go k h (yes p) = rw (get_d_tab f n (n - suc (suc k)) _ (omega arith))
      go k h (no p) = rw (le-ltb (suc k) n (omega arith))

  -- a trim after a reversal is a reversal after the trim from the other end
  pub trim_turn_tab : (f : ℕ → Vert A) (n i j : ℕ) → i < j → j < n
      → trim_list z i j (turn_list neg z (tab f n)) ≡ turn_list neg z (trim_list z (n - suc j) (n - suc i) (tab f n))
  trim_turn_tab f n i j hi hj =
      let e : n - suc i - (n - suc j) ≡ j - i = omega arith in
      rw (turn_tab, trim_tab z (turn_at neg z f n) n i j hi hj, trim_tab z f n (n - suc j) (n - suc i) (omega arith) (omega arith), e, turn_tab)
      (tab_ext _ _ (suc (j - i)) (λ k h. trim_turn neg z f n i j k hi hj (omega arith)))
