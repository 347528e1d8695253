-- A magnitude that is at most a bound is two comparisons, for every float and every bound: |x| <= e where -e <= x and x <= e.
use mathlib.Core.Path.{◌≡◌, refl, sym, ◌∙◌, subst}
use mathlib.Core.Bool.{Bool, true, false, not, ◌&&◌, ◌||◌}
use Prim.Native.Nat.{ℕ, zero, suc, ◌+◌, ◌*◌, ◌<◌}
use native.Mathlib.Omega.{arith}
use lib.Dec.{ltb, eqb}
use borrow.Author.Tests.{ltb-true, ltb-false, lt-ltb, le-ltb, eq-eqb, ne_eqb}
use lib.Ieee.{Float, nan, inf, fin, up, down, below, level, neg, le}
use Rattle.real.specs.Root.{abs_of}

-- ±a ≤ ±b
abbrev most : Bool → ℕ → Bool → ℕ → Bool
most s a t b = below s a t b || level s a t b

-- |±p| ≤ ±q
abbrev Within : Bool → Bool → ℕ → ℕ → Type 0
Within s t p q = most false p t q ≡ most (not t) q s p && most s p t q

-- what the tests say where a is the smaller
module _ (a b : ℕ) (h : a < b) where
  less : ltb a b ≡ true
  less = lt-ltb a b h

  not_less : ltb b a ≡ false
  not_less = le-ltb b a (omega arith)

  differ : eqb a b ≡ false
  differ = ne_eqb a b (λ e. omega arith)

  differ' : eqb b a ≡ false
  differ' = ne_eqb b a (λ e. omega arith)

  some : ltb 0 (a + b) ≡ true
  some = lt-ltb 0 (a + b) (omega arith)

  some' : ltb 0 (b + a) ≡ true
  some' = lt-ltb 0 (b + a) (omega arith)

inside : (s t : Bool) (p q : ℕ) → p < q → Within s t p q
inside false false p q h = simp (less p q h, some' p q h)
inside true false p q h = simp (less p q h, some p q h)
inside false true p q h = simp (not_less p q h, differ p q h, differ' p q h)
inside true true p q h = simp (not_less p q h, differ p q h, differ' p q h)

outside : (s t : Bool) (p q : ℕ) → q < p → Within s t p q
outside false false p q h = simp (not_less q p h, differ' q p h, some q p h)
outside true false p q h = simp (not_less q p h, differ q p h, differ' q p h)
outside false true p q h = simp (less q p h, differ' q p h)
outside true true p q h = simp (differ q p h, differ' q p h)

at_bound : (s t : Bool) (p : ℕ) → Within s t p p
at_bound false false zero = refl
at_bound true false zero = refl
at_bound false true zero = refl
at_bound true true zero = refl
at_bound false false (suc k) = let p = suc k in simp (le-ltb p p (omega arith), eq-eqb p p refl, lt-ltb 0 (p + p) (omega arith))
at_bound true false (suc k) = let p = suc k in simp (le-ltb p p (omega arith), eq-eqb p p refl, lt-ltb 0 (p + p) (omega arith))
at_bound false true (suc k) = let p = suc k in simp (le-ltb p p (omega arith), eq-eqb p p refl, ne_eqb p 0 (λ e. omega arith))
at_bound true true (suc k) = let p = suc k in simp (eq-eqb p p refl, ne_eqb p 0 (λ e. omega arith))

within : (s t : Bool) (p q : ℕ) → Within s t p q
within s t p q = go (ltb p q) (ltb q p) refl refl
  where
    go : (a b : Bool) → ltb p q ≡ a → ltb q p ≡ b → Within s t p q
    go true b e f = inside s t p q (ltb-true p q e)
    go false true e f = outside s t p q (ltb-true q p f)
    go false false e f =
        let h = ltb-false p q e in
        let k = ltb-false q p f in
        subst (Within s t p) (let same : p ≡ q = omega arith in same) (at_bound s t p)

law : (x e : Float) → le (abs_of x) e ≡ le (neg e) x && le x e
unfolding le abs_of neg
law nan nan = refl
law nan (inf t) = refl
law nan (fin t n d) = refl
law (inf s) nan = refl
law (inf true) (inf true) = refl
law (inf true) (inf false) = refl
law (inf false) (inf true) = refl
law (inf false) (inf false) = refl
law (inf true) (fin t n d) = refl
law (inf false) (fin t n d) = refl
law (fin s m e) nan = refl
law (fin s m e) (inf true) = refl
law (fin s m e) (inf false) = refl
law (fin s m e) (fin t n d) = within s t (m * up e * down d) (n * up d * down e)

-- what the two comparisons of the code say of the definition's one
pub lies_within : {r : Bool} (x e : Float) → r ≡ le (neg e) x && le x e → r ≡ le (abs_of x) e
lies_within x e p = p ∙ sym (law x e)
