-- Reversal and trim of a plain list, by the list operations that a reader knows.
use mathlib.Core.Path.{◌≡◌, refl, sym, ap, ap₂, ◌∙◌}
use mathlib.Core.List.{List, [], ◌∷◌, ◌++◌, map, reverse, reverse-append}
use Prim.Native.Nat.{ℕ, zero, suc, ◌+◌, ◌-◌, ◌<◌, ◌≤◌}
use native.Mathlib.Nat.{le_of_suc-le-suc, not-suc-le-zero}
use native.Mathlib.Omega.{arith}
use lib.ListN.{length, get_or, take, drop, length-drop}
use lib.Seq.{get_or-drop}
use borrow.Author.Tests.{lt-ltb, le-ltb}
use Rattle.lists.specs.Plain.{Vert, with_bulge, position, tab, at, turn_at, trim_at, turn_list, trim_list, PlainSteps}
use Rattle.lists.proofs.Tab.{tab_ext, tab_suc}

module _ {B : Type 0} where
  take_tab : (l : List B) (m : ℕ) (d : B) → m ≤ length l → take m l ≡ tab (λ k. get_or l k d) m
  unfolding tab
  take_tab l zero d h = refl
  take_tab [] (suc m) d h = absurd (not-suc-le-zero h)
  take_tab (x ∷ l) (suc m) d h = ap (λ (r : List B). x ∷ r) (take_tab l m d (le_of_suc-le-suc h))

  reverse_tab : (f : ℕ → B) (n : ℕ) → reverse (tab f n) ≡ tab (λ k. f (n - suc k)) n
  unfolding tab
  reverse_tab f zero = refl
  reverse_tab f (suc n) =
      ap reverse (tab_suc f n) ∙ reverse-append (tab f n) (f n ∷ []) ∙ ap (λ (r : List B). f n ∷ r) (reverse_tab f n)
      ∙ ap₂ (λ (x : B) (r : List B). x ∷ r) (ap f (omega arith)) (tab_ext _ _ n (λ k h. ap f (omega arith)))

  map_tab : {D : Type 0} (g : B → D) (f : ℕ → B) (n : ℕ) → map g (tab f n) ≡ tab (λ k. g (f k)) n
  unfolding tab
  map_tab g f zero = refl
  map_tab {D} g f (suc n) = ap (λ (r : List D). g (f zero) ∷ r) (map_tab g (λ k. f (suc k)) n)

  tab_self : (l : List B) (d : B) → tab (λ k. get_or l k d) (length l) ≡ l
  unfolding tab
  tab_self [] d = refl
  tab_self (x ∷ l) d = ap (λ (r : List B). x ∷ r) (tab_self l d)

module _ {A : Type 0} (neg : A → A) (z : A) (l : List (Vert A)) where
  abbrev none : Vert A
  none = record { x = z; y = z; bulge = z }

  trim_take : (i j : ℕ) → i < j → j < length l → trim_list z i j l ≡ take (j - i) (drop i l) ++ with_bulge (at z l j) z ∷ []
  unfolding trim_list trim_at
  trim_take i j below within =
      let e : i + (j - i) ≡ j = omega arith in
      tab_suc _ (j - i)
      ∙ ap₂ (λ (r : List (Vert A)) (v : Vert A). r ++ v ∷ [])
      (tab_ext _ _ (j - i) (λ k h. simp (lt-ltb k (j - i) h) (sym (get_or-drop i l k none))) ∙ sym (take_tab (drop i l) (j - i) none (omega (arith, length-drop i l))))
      (simp (le-ltb (j - i) (j - i) (omega arith), e))

  turn_positions : map position (turn_list neg z l) ≡ reverse (map position l)
  unfolding turn_list turn_at
  turn_positions =
      map_tab position _ (length l) ∙ sym (reverse_tab (λ k. position (get_or l k none)) (length l))
      ∙ ap reverse (sym (map_tab position (λ k. get_or l k none) (length l)) ∙ ap (map position) (tab_self l none))

  turn_bulges : (n : ℕ) → length l ≡ suc n → map (λ v. v.bulge) (turn_list neg z l) ≡ reverse (map (λ v. neg v.bulge) (take n l)) ++ z ∷ []
  unfolding turn_list turn_at
  turn_bulges n e =
      let g : Vert A → A = λ v. neg v.bulge in
      map_tab (λ (v : Vert A). v.bulge) _ (length l)
      ∙ ap (tab _) e ∙ tab_suc _ n
      ∙ ap₂ (λ (r : List A) (a : A). r ++ a ∷ [])
      (tab_ext _ (λ k. g (get_or l (n - suc k) none)) n (λ k h.
      let q : length l - suc (suc k) ≡ n - suc k = omega arith in
      simp (lt-ltb (suc k) (length l) (omega arith), q))
      ∙ sym (reverse_tab (λ k. g (get_or l k none)) n) ∙ ap reverse (sym (map_tab g (λ k. get_or l k none) n) ∙ ap (map g) (sym (take_tab l n none (omega arith)))))
      (simp (le-ltb (suc n) (length l) (omega arith)))

  pub plain_steps : 0 < length l → PlainSteps neg z l
  plain_steps some = record { positions = turn_positions; bulges = turn_bulges (length l - 1) (omega arith); trimmed = trim_take }
