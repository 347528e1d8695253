-- The same text, byte by byte.
use mathlib.Core.Path.{◌≡◌, refl, ap, ◌∙◌}
use mathlib.Core.List.{List, [], ◌∷◌}
use mathlib.Core.Bool.{Bool, true, false, ◌&&◌}
use Prim.Native.Nat.{ℕ, suc, ◌+◌, ◌<◌}
use lib.ListN.{length, drop, get_or}
use lib.Dec.{eqb}
use borrow.Author.Tests.{eq-eqb, ne_eqb}
use Rattle.numeral.proofs.Text.{here, past}
use Rattle.dxf.specs.Entity.{same}

pub same_long : (a b : List ℕ) → (length a ≡ length b → ⊥) → same a b ≡ false
unfolding same
same_long [] [] h = absurd (h refl)
same_long [] (y ∷ b) h = refl
same_long (x ∷ a) [] h = refl
same_long (x ∷ a) (y ∷ b) h = go (eqb x y) (same a b) (same_long a b (λ e. h (ap suc e)))
  where
    go : (z w : Bool) → w ≡ false → (z && w) ≡ false
    go false w e = refl
    go true w e = e

module _ (a b : List ℕ) (i : ℕ) (ha : i < length a) (hb : i < length b) where
  both_here : same (drop i a) (drop i b) ≡ (eqb (get_or a i 0) (get_or b i 0) && same (drop (i + 1) a) (drop (i + 1) b))
  both_here = ap (λ (l : List ℕ). same l (drop i b)) (here a i ha) ∙ ap (same (get_or a i 0 ∷ drop (i + 1) a)) (here b i hb) ∙ unfold same in refl

  pub same_here : get_or a i 0 ≡ get_or b i 0 → same (drop i a) (drop i b) ≡ same (drop (i + 1) a) (drop (i + 1) b)
  same_here e = both_here ∙ simp (eq-eqb (get_or a i 0) (get_or b i 0) e)

  pub not_here : (get_or a i 0 ≡ get_or b i 0 → ⊥) → same (drop i a) (drop i b) ≡ false
  not_here e = both_here ∙ simp (ne_eqb (get_or a i 0) (get_or b i 0) e)

pub same_past : (a b : List ℕ) (i : ℕ) → i ≡ length a → i ≡ length b → same (drop i a) (drop i b) ≡ true
unfolding same
same_past a b i e g = ap (λ (l : List ℕ). same l (drop i b)) (past a i e) ∙ ap (same []) (past b i g)
