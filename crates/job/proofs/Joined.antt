-- Texts joined: by the elements of a list, by number, and from the front.
use mathlib.Core.Path.{◌≡◌, refl, sym, ap, ap₂, ◌∙◌}
use mathlib.Core.List.{List, [], ◌∷◌, ◌++◌, append_assoc, append-nil}
use Prim.Native.Nat.{ℕ, zero, suc, ◌+◌, ◌<◌}
use native.Mathlib.Omega.{arith}
use Rattle.lists.specs.Plain.{tab}
use Rattle.job.specs.Rows.{numbered, joined}

pub joined_ext : (f g : ℕ → List ℕ) (n : ℕ) → ((k : ℕ) → k < n → f k ≡ g k) → joined f n ≡ joined g n
unfolding joined
joined_ext f g zero h = refl
joined_ext f g (suc n) h = ap₂ (λ (a b : List ℕ). a ++ b) (joined_ext f g n (λ k q. h k (omega arith))) (h n (omega arith))

pub joined_first : (f : ℕ → List ℕ) (n : ℕ) → joined f (suc n) ≡ f 0 ++ joined (λ k. f (suc k)) n
unfolding joined
joined_first f zero = sym (append-nil (f 0))
joined_first f (suc n) = ap (λ (t : List ℕ). t ++ f (suc n)) (joined_first f n) ∙ append_assoc (f 0) (joined (λ k. f (suc k)) n) (f (suc n))

pub numbered_ext : {A : Type 0} (f g : ℕ → A → List ℕ) → ((k : ℕ) (x : A) → f k x ≡ g k x) → (k : ℕ) (l : List A) → numbered f k l ≡ numbered g k l
unfolding numbered
numbered_ext f g h k [] = refl
numbered_ext f g h k (x ∷ l) = ap₂ (λ (t u : List ℕ). t ++ u) (h k x) (numbered_ext f g h (suc k) l)

module _ {A : Type 0} (f : ℕ → A → List ℕ) where
  from : (g : ℕ → A) (n k : ℕ) → numbered f k (tab g n) ≡ joined (λ i. f (k + i) (g i)) n
  unfolding numbered joined tab
  from g zero k = refl
  from g (suc n) k =
      let e : k + 0 ≡ k = omega arith in
      ap₂ (λ (m : ℕ) (t : List ℕ). f m (g 0) ++ t) (sym e)
      (from (λ i. g (suc i)) n (suc k) ∙ joined_ext _ _ n (λ i h. ap (λ (m : ℕ). f m (g (suc i))) (omega arith)))
      ∙ sym (joined_first (λ i. f (k + i) (g i)) n)

  pub numbered_joined : (g : ℕ → A) (n : ℕ) → numbered f 0 (tab g n) ≡ joined (λ i. f i (g i)) n
  numbered_joined g n = from g n 0 ∙ joined_ext _ _ n (λ i h. ap (λ (m : ℕ). f m (g i)) (omega arith))
