-- Laws of `tab`, the list of f 0 to f (n - 1).
use mathlib.Core.Path.{◌≡◌, refl, sym, ap, ap₂, ◌∙◌}
use Prim.Native.Nat.{ℕ, zero, suc, ◌+◌, ◌*◌, ◌<◌, ◌≤◌, suc-le-suc}
use native.Mathlib.Nat.{le_of_suc-le-suc, not-suc-le-zero, zero-lt-suc}
use native.Mathlib.Omega.{arith}
use mathlib.Core.List.{List, [], ◌∷◌, ◌++◌}
use lib.ListN.{length, get_or, drop, length-append, length-drop}
use lib.Seq.{sets, sets-eq, take_at, drop_at, drop-drop}
use Rattle.lists.specs.Plain.{Vert, tab, flat, numbers}

module _ {B : Type 0} where
  pub length_tab : (f : ℕ → B) (n : ℕ) → length (tab f n) ≡ n
  unfolding tab
  length_tab f zero = refl
  length_tab f (suc n) = ap suc (length_tab (λ i. f (suc i)) n)

  pub get_d_tab : (f : ℕ → B) (n k : ℕ) (d : B) → k < n → get_or (tab f n) k d ≡ f k
  unfolding tab
  get_d_tab f zero k d h = absurd (not-suc-le-zero h)
  get_d_tab f (suc n) zero d h = refl
  get_d_tab f (suc n) (suc k) d h = get_d_tab (λ i. f (suc i)) n k d (le_of_suc-le-suc h)

  pub tab_ext : (f g : ℕ → B) (n : ℕ) → ((k : ℕ) → k < n → f k ≡ g k) → tab f n ≡ tab g n
  unfolding tab
  tab_ext f g zero e = refl
  tab_ext f g (suc n) e = λ i. e zero (zero-lt-suc n) i ∷ tab_ext (λ k. f (suc k)) (λ k. g (suc k)) n (λ k h. e (suc k) (suc-le-suc h)) i

  pub tab_suc : (f : ℕ → B) (n : ℕ) → tab f (suc n) ≡ tab f n ++ f n ∷ []
  unfolding tab
  tab_suc f zero = refl
  tab_suc f (suc n) = ap (λ (l : List B). f zero ∷ l) (tab_suc (λ i. f (suc i)) n)

module _ {A : Type 0} where
  pub length_flat : (l : List (Vert A)) → length (flat l) ≡ 3 * length l
  unfolding flat
  length_flat [] = refl
  length_flat (v ∷ l) = omega (arith, length_flat l)

  pub flat_append : (a b : List (Vert A)) → flat (a ++ b) ≡ flat a ++ flat b
  unfolding flat
  flat_append [] b = refl
  flat_append (v ∷ a) b = ap (λ (l : List A). v.x ∷ v.y ∷ v.bulge ∷ l) (flat_append a b)

  -- one more vertex of a list that is written from the start of a buffer
  pub flat_put : (f : ℕ → Vert A) (k : ℕ) (out : List A) → 3 * k + 3 ≤ length out
      → sets (flat (tab f k) ++ drop (3 * k) out) (3 * k) (numbers (f k)) ≡ flat (tab f (suc k)) ++ drop (3 * suc k) out
  unfolding flat
  flat_put f k out h =
      let p = flat (tab f k) in
      let l = p ++ drop (3 * k) out in
      let e : length p ≡ 3 * k = length_flat (tab f k) ∙ ap (λ (m : ℕ). 3 * m) (length_tab f k) in
      let n : length l ≡ length out = length-append p (drop (3 * k) out) ∙ simp (e, length-drop) (omega arith) in
      let e₂ : 3 * suc k ≡ 3 * k + 3 = omega arith in
      sets-eq (numbers (f k)) l (3 * k) (omega arith)
      ∙ ap₂ (λ (a b : List A). a ++ numbers (f k) ++ b) (take_at p (drop (3 * k) out) (3 * k) e)
      (sym (drop-drop 3 (3 * k) l) ∙ ap (drop 3) (drop_at p (drop (3 * k) out) (3 * k) e) ∙ drop-drop 3 (3 * k) out)
      ∙ rw (tab_suc, flat_append, e₂)
