-- A test of every number below a bound, as a loop that goes up works it out.
use mathlib.Core.Path.{◌≡◌, refl, ap, ap₂, ◌∙◌}
use mathlib.Core.Bool.{Bool, true, false, ◌&&◌}
use Prim.Native.Nat.{ℕ, zero, suc, ◌+◌, ◌<◌}
use native.Mathlib.Nat.{not-suc-le-zero}
use native.Mathlib.Numerals.{add-one}
use native.Mathlib.Decide.{dec_lt}
use native.Mathlib.Omega.{arith}
use Rattle.real.proofs.Replies.{and_both}
use Rattle.view.specs.Outline.{all}

pub all_more : (f : ℕ → Bool) (k : ℕ) → all f k ≡ true → f k ≡ true → all f (k + 1) ≡ true
unfolding all
all_more f k p q = rw (add-one, p) q

-- one that fails
pub all_not : (f : ℕ → Bool) (n k : ℕ) → k < n → f k ≡ false → all f n ≡ false
unfolding all
all_not f zero k h e = absurd (not-suc-le-zero h)
all_not f (suc n) k h e = go (dec_lt k n) (λ p. all_not f n k p e)
  where
    no_right : (b : Bool) → (b && false) ≡ false
    no_right true = refl
    no_right false = refl

    go : Dec (k < n) → (k < n → all f n ≡ false) → (all f n && f n) ≡ false
    go (yes p) r = rw (r p)
    go (no p) r = let q : n ≡ k = omega arith in ap (λ (x : Bool). all f n && x) (ap f q ∙ e) ∙ no_right (all f n)

-- each holds
pub all_each : (f : ℕ → Bool) (n : ℕ) → all f n ≡ true → (k : ℕ) → k < n → f k ≡ true
unfolding all
all_each f zero e k h = absurd (not-suc-le-zero h)
all_each f (suc n) e k h = go (dec_lt k n) (λ p. all_each f n (and_both (all f n) (f n) e).0 k p)
  where
    go : Dec (k < n) → (k < n → f k ≡ true) → f k ≡ true
    go (yes p) r = r p
    go (no p) r = let q : k ≡ n = omega arith in rw q (and_both (all f n) (f n) e).1

-- two tests that agree below the bound
pub all_same : (f g : ℕ → Bool) (n : ℕ) → ((k : ℕ) → k < n → f k ≡ g k) → all f n ≡ all g n
unfolding all
all_same f g zero e = refl
all_same f g (suc n) e = ap₂ (λ (a b : Bool). a && b) (all_same f g n (λ k h. e k (omega arith))) (e n (omega arith))
