-- A text read from the left: what stands at place i, and what is left after it.
use mathlib.Core.Path.{◌≡◌, refl, sym, ap, ◌∙◌, subst}
use mathlib.Core.List.{List, [], ◌∷◌}
use mathlib.Core.Bool.{Bool, true, false, cond}
use Prim.Native.Nat.{ℕ, ◌+◌, ◌-◌, ◌≤◌, ◌<◌}
use native.Mathlib.Numerals.{add-one}
use native.Mathlib.Omega.{arith}
use lib.ListN.{length, take, drop, get_or, length-drop}
use lib.Seq.{drop-cons, drop-length, take_all}
use lib.Dec.{ltb}
use borrow.Author.Tests.{ltb-true, ltb-false}
use Rattle.std.specs.Prelude.{Option, Some, None, position}
use Rattle.std.specs.List.{position_or_len}

pub here : (t : List ℕ) (i : ℕ) → i < length t → drop i t ≡ get_or t i 0 ∷ drop (i + 1) t
here t i h = drop-cons t i 0 h ∙ ap (λ (n : ℕ). get_or t i 0 ∷ drop n t) (sym (add-one i))

pub past : {A : Type 0} (t : List A) (i : ℕ) → i ≡ length t → drop i t ≡ []
past t i e = ap (λ (n : ℕ). drop n t) e ∙ drop-length t

-- a part of a text up to its end
pub to_end : {A : Type 0} (t : List A) (k : ℕ) → take (length t - k) (drop k t) ≡ drop k t
to_end t k = take_all (length t - k) (drop k t) (simp length-drop (omega arith))

-- where a test first passes, or that it never does
pub first_at : {A : Type 0} (p : A → Bool) (t : List A) (i : ℕ) → Some i ≡ position p t → (position_or_len p t ≡ i) × (i < length t)
first_at p t i e = go (ltb (position_or_len p t) (length t)) refl e
  where
    go : (h : Bool) → ltb (position_or_len p t) (length t) ≡ h → Some i ≡ cond h (Some (position_or_len p t)) None → (position_or_len p t ≡ i) × (i < length t)
    go true d e = let q : position_or_len p t ≡ i = cc in (q, subst (λ (n : ℕ). n < length t) q (ltb-true (position_or_len p t) (length t) d))
    go false d e = absurd (cc)

pub nowhere : {A : Type 0} (p : A → Bool) (t : List A) → ◌≡◌ {A = Option ℕ} None (position p t) → length t ≤ position_or_len p t
nowhere p t e = go (ltb (position_or_len p t) (length t)) refl e
  where
    go : (h : Bool) → ltb (position_or_len p t) (length t) ≡ h → ◌≡◌ {A = Option ℕ} None (cond h (Some (position_or_len p t)) None) → length t ≤ position_or_len p t
    go true d e = absurd (cc)
    go false d e = ltb-false (position_or_len p t) (length t) d
