-- A loop that copies values to the front of a list, one a turn.
use mathlib.Core.Path.{◌≡◌, refl, sym, ap, ◌∙◌}
use mathlib.Core.List.{List, ◌++◌}
use Prim.Native.Nat.{ℕ, suc, ◌+◌, ◌≤◌, ◌<◌}
use native.Mathlib.Omega.{arith}
use native.Mathlib.Numerals.{add-one}
use lib.ListN.{length, set, get_or, take, drop, length-set}
use lib.Seq.{take-length, paste-suc}

module _ {A : Type 0} (values before : List A) where
  -- the list after k turns
  abbrev copied : ℕ → List A
  copied k = take k values ++ drop k before

  copied_more : (k : ℕ) (z : A) → k < length values → k < length before → set (copied k) k (get_or values k z) ≡ copied (k + 1)
  copied_more k z hv hb =
      let e : 0 + k ≡ k = omega arith in
      let f : 0 + suc k ≡ suc k = omega arith in
      let h : 0 + k < length before = omega arith in
      simp (e, f) at (paste-suc before 0 values k z h hv) ∙ ap copied (sym (add-one k))

  -- k values are copied, to a list with room for all
  pub record Copying (out : List A) (k : ℕ) : Type 0 where
    pub some : k ≤ length values
    pub size : length out ≡ length before
    pub room : length values ≤ length before
    pub is : out ≡ copied k

  pub copy_none : length values ≤ length before → Copying before 0
  copy_none h = record { some = omega arith; size = refl; room = h; is = refl }

  pub copy_more : {out : List A} {k : ℕ} (z : A) → Copying out k → k < length values → Copying (set out k (get_or values k z)) (k + 1)
  copy_more {k = k} z c h =
      record {
        some = omega arith;
        size = simp length-set c.size;
        room = c.room;
        is = ap (λ (l : List A). set l k (get_or values k z)) c.is ∙ copied_more k z h (omega arith);
      }

  pub copy_all : {out : List A} {k : ℕ} → Copying out k → length values ≤ k → out ≡ values ++ drop (length values) before
  copy_all {k = k} c h = let e : k ≡ length values = omega arith in c.is ∙ ap copied e ∙ ap (λ (l : List A). l ++ drop (length values) before) (take-length values)
