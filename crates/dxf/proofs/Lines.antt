-- Where the first line of a text is cut.
use mathlib.Core.Path.{◌≡◌, refl, sym, ap, ◌∙◌, subst}
use mathlib.Core.List.{List, [], ◌∷◌, ◌++◌, map}
use mathlib.Core.Bool.{Bool, true, false, cond, not, ◌&&◌}
use Prim.Native.Nat.{ℕ, suc, ◌+◌, ◌-◌, ◌≤◌, ◌<◌}
use native.Mathlib.Nat.{lt_irrefl}
use native.Mathlib.Omega.{arith}
use lib.ListN.{length, take, drop, get_or}
use lib.Seq.{take-suc, take_all}
use lib.Dec.{eqb}
use borrow.Author.Tests.{eq-eqb, ne_eqb, eqb-true, not-true}
use Rattle.std.specs.Prelude.{Option, Some, None, position}
use Rattle.std.specs.List.{position_or_len}
use Rattle.std.proofs.lemmas.List.Sums.{split_at_first, passes_at_first}
use Rattle.real.proofs.Replies.{and_both}
use Rattle.numeral.proofs.Text.{first_at, nowhere}
use Rattle.dxf.specs.Line.{onto, starts_lf, cut, skip_spaces, lines_of, trim}

-- ---- a last CR

trim_cr : (x : List ℕ) (c : ℕ) → c ≡ 13 → trim (x ++ (c ∷ [])) ≡ x
unfolding trim
trim_cr [] c e = simp (eq-eqb c 13 e)
trim_cr (b ∷ []) c e = ap (λ (l : List ℕ). b ∷ l) (trim_cr [] c e)
trim_cr (b ∷ d ∷ x) c e = ap (λ (l : List ℕ). b ∷ l) (trim_cr (d ∷ x) c e)

trim_not : (x : List ℕ) (c : ℕ) → (c ≡ 13 → ⊥) → trim (x ++ (c ∷ [])) ≡ x ++ (c ∷ [])
unfolding trim
trim_not [] c e = simp (ne_eqb c 13 e)
trim_not (b ∷ []) c e = ap (λ (l : List ℕ). b ∷ l) (trim_not [] c e)
trim_not (b ∷ d ∷ x) c e = ap (λ (l : List ℕ). b ∷ l) (trim_not (d ∷ x) c e)

by_last : (x : List ℕ) → 1 ≤ length x → x ≡ take (length x - 1) x ++ (get_or x (length x - 1) 0 ∷ [])
by_last x h =
    let s : length x ≡ suc (length x - 1) = omega arith in
    sym (take_all (length x) x (omega arith)) ∙ ap (λ (n : ℕ). take n x) s ∙ take-suc x (length x - 1) 0 (omega arith)

module _ (x : List ℕ) where
  pub last_cr : 1 ≤ length x → get_or x (length x - 1) 0 ≡ 13 → take (length x - 1) x ≡ trim x
  last_cr h e = sym (ap trim (by_last x h) ∙ trim_cr (take (length x - 1) x) (get_or x (length x - 1) 0) e)

  pub last_other : 1 ≤ length x → (get_or x (length x - 1) 0 ≡ 13 → ⊥) → x ≡ trim x
  last_other h e = sym (ap trim (by_last x h) ∙ trim_not (take (length x - 1) x) (get_or x (length x - 1) 0) e ∙ sym (by_last x h))

pub none_last : (x : List ℕ) → length x < 1 → x ≡ trim x
unfolding trim
none_last [] h = refl
none_last (b ∷ x) h = absurd (lt_irrefl 0 (omega arith))

-- ---- the spaces before a text

pub space_first : (t : List ℕ) → 1 ≤ length t → get_or t 0 0 ≡ 32 → skip_spaces t ≡ skip_spaces (drop 1 t)
unfolding skip_spaces
space_first [] h e = refl
space_first (b ∷ t) h e = simp (eq-eqb b 32 e)

pub text_none : (t : List ℕ) → length t < 1 → skip_spaces t ≡ t
unfolding skip_spaces
text_none [] h = refl
text_none (b ∷ t) h = absurd (lt_irrefl 0 (omega arith))

pub text_first : (t : List ℕ) → (get_or t 0 0 ≡ 32 → ⊥) → skip_spaces t ≡ t
unfolding skip_spaces
text_first [] e = refl
text_first (b ∷ t) e = simp (ne_eqb b 32 e)

-- ---- a line without an LF

no_lf : List ℕ → Bool
no_lf [] = true
no_lf (b ∷ t) = not (eqb b 10) && no_lf t

no_lf_first : (b : ℕ) (x : List ℕ) → no_lf (b ∷ x) ≡ true → (eqb b 10 ≡ false) × (no_lf x ≡ true)
no_lf_first b x h = unfold no_lf in let e = and_both (not (eqb b 10)) (no_lf x) h in (not-true (eqb b 10) e.0, e.1)

-- a byte that neither ends a line nor stands before one that does
cut_on : (b c : ℕ) (x : List ℕ) → eqb b 10 ≡ false → eqb c 10 ≡ false → cut (b ∷ c ∷ x) ≡ onto b (cut (c ∷ x))
unfolding cut starts_lf
cut_on b c x e d = last_of (eqb b 10) (eqb c 10) (eqb b 13) ([] ∷ cut (c ∷ x)) (cut (c ∷ x)) (onto b (cut (c ∷ x))) e d
  where
    last_of : (p q z : Bool) (l m n : List (List ℕ)) → p ≡ false → q ≡ false → cond p l (cond (z && q) m n) ≡ n
    last_of p q true l m n e d = simp (e, d)
    last_of p q false l m n e d = simp e

-- at an LF
cut_lf : (x y : List ℕ) → no_lf x ≡ true → cut (x ++ 10 ∷ y) ≡ trim x ∷ cut y
unfolding cut trim starts_lf onto
cut_lf [] y h = refl
cut_lf (b ∷ []) y h = simp (no_lf_first b [] h).0 (go (eqb b 13))
  where
    go : (z : Bool) → cond (z && true) ([] ∷ cut y) (onto b ([] ∷ cut y)) ≡ cond z [] (b ∷ []) ∷ cut y
    go true = refl
    go false = refl
cut_lf (b ∷ c ∷ x) y h =
    let e = no_lf_first b (c ∷ x) h in
    cut_on b c (x ++ 10 ∷ y) e.0 (no_lf_first c x e.1).0 ∙ ap (onto b) (cut_lf (c ∷ x) y e.1)

-- at the text's end
cut_end : (b : ℕ) (x : List ℕ) → no_lf (b ∷ x) ≡ true → cut (b ∷ x) ≡ (b ∷ x) ∷ []
unfolding cut starts_lf onto
cut_end b [] h = simp (no_lf_first b [] h).0 (go (eqb b 13))
  where
    go : (z : Bool) → cond (z && false) [] (onto b []) ≡ (b ∷ []) ∷ []
    go true = refl
    go false = refl
cut_end b (c ∷ x) h =
    let e = no_lf_first b (c ∷ x) h in
    cut_on b c x e.0 (no_lf_first c x e.1).0 ∙ ap (onto b) (cut_end c x e.1)

-- ---- the first line

abbrev is_lf : ℕ → Bool
is_lf b = eqb b 10

one_more : (n : ℕ) → 1 + n ≡ suc n
one_more n = omega arith

no_lf_before : (t : List ℕ) → no_lf (take (position_or_len is_lf t) t) ≡ true
unfolding no_lf
no_lf_before [] = refl
no_lf_before (b ∷ t) = go (eqb b 10) refl (no_lf_before t)
  where
    go : (h : Bool) → eqb b 10 ≡ h → no_lf (take (position_or_len is_lf t) t) ≡ true → no_lf (take (position_or_len is_lf (b ∷ t)) (b ∷ t)) ≡ true
    go true e r = simp e
    go false e r = simp (e, one_more, r)

pub line_lf : (t : List ℕ) (e : ℕ) → Some e ≡ position is_lf t → lines_of t ≡ skip_spaces (trim (take e t)) ∷ lines_of (drop (e + 1) t)
unfolding lines_of
line_lf t e h =
    let f = first_at is_lf t e h in
    let p = position_or_len is_lf t in
    let l : p < length t = subst (λ (n : ℕ). n < length t) (sym f.0) f.1 in
    let c : get_or t p 0 ≡ 10 = eqb-true (get_or t p 0) 10 (passes_at_first is_lf t 0 l) in
    ap (map skip_spaces) (ap cut (split_at_first is_lf t 0 l ∙ ap (λ (b : ℕ). take p t ++ b ∷ drop (p + 1) t) c) ∙ cut_lf (take p t) (drop (p + 1) t) (no_lf_before t))
    ∙ ap (λ (n : ℕ). skip_spaces (trim (take n t)) ∷ map skip_spaces (cut (drop (n + 1) t))) f.0

pub line_last : (t : List ℕ) → 1 ≤ length t → ◌≡◌ {A = Option ℕ} None (position is_lf t) → lines_of t ≡ skip_spaces t ∷ lines_of []
unfolding lines_of cut
line_last [] h e = absurd (lt_irrefl 0 (omega arith))
line_last (b ∷ t) h e =
    let n : no_lf (b ∷ t) ≡ true = ap no_lf (sym (take_all _ (b ∷ t) (nowhere is_lf (b ∷ t) e))) ∙ no_lf_before (b ∷ t) in
    ap (map skip_spaces) (cut_end b t n)
