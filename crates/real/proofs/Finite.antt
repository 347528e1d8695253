-- A root is finite exactly where the number has one that is given: below zero it is a NaN, and an infinity's is an infinity.
use mathlib.Core.Path.{◌≡◌, refl, sym, ap, subst, ◌∙◌}
use mathlib.Core.Bool.{true, false}
use Prim.Native.Nat.{ℕ, zero, suc, ◌*◌, ◌<◌}
use native.Mathlib.Nat.{zero-mul, mul-pos, zero-lt-suc, lt_irrefl}
use lib.IntN.{ℤ}
use lib.Dec.{T}
use lib.Ieee.{Float, nan, inf, fin, Format, up, down, lt, le}
use lib.Ieee.Fits.{up_pos}
use lib.Ieee.Positive.{positive}
use borrow.Author.Tests.{lt-ltb, ne_eqb}
use Rattle.real.specs.Root.{IsRoot}
use Rattle.real.specs.Sqrt.{rootable}

below_infinity : (r : Float) → T (positive r) → lt r (inf false) ≡ true
unfolding lt
below_infinity nan h = absurd h
below_infinity (inf s) h = absurd h
below_infinity (fin s m e) h = refl

some : (m : ℕ) (e : ℤ) → 0 < suc m * up e * 1
some m e = mul-pos (mul-pos (zero-lt-suc m) (up_pos e)) (zero-lt-suc 0)

pub finite_root : (f : Format) (x r : Float) → IsRoot f x r → lt r (inf false) ≡ rootable x
unfolding IsRoot rootable lt le
finite_root f nan r h = ap (λ (z : Float). lt z (inf false)) h
finite_root f (inf true) r h = ap (λ (z : Float). lt z (inf false)) h
finite_root f (inf false) r h = ap (λ (z : Float). lt z (inf false)) h
finite_root f (fin true zero e) r h = ap (λ (z : Float). lt z (inf false)) h ∙ simp (zero-mul (down e), zero-mul (up e))
finite_root f (fin false zero e) r h = ap (λ (z : Float). lt z (inf false)) h ∙ simp (zero-mul (down e), zero-mul (up e))
finite_root f (fin true (suc m) e) r h = ap (λ (z : Float). lt z (inf false)) h ∙ simp (zero-mul (down e), ne_eqb 0 (suc m * up e * 1) (λ q. lt_irrefl 0 (subst (λ (n : ℕ). 0 < n) (sym q) (some m e))))
finite_root f (fin false (suc m) e) r h = below_infinity r h.above_zero ∙ simp (zero-mul (down e), lt-ltb 0 (suc m * up e * 1) (some m e))
