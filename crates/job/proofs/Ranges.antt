-- A test of every number below a bound, as an iterator over the range works it out.
use mathlib.Core.Path.{◌≡◌, refl, sym, ap, ap₂, ◌∙◌}
use mathlib.Core.Bool.{Bool, true, false, ◌&&◌}
use mathlib.Core.List.{List}
use Prim.Native.Nat.{ℕ, zero, suc, ◌+◌}
use native.Mathlib.Omega.{arith}
use denote.Param.Members.{Mut}
use Rattle.std.specs.declared.ops.Range.{Range}
use Rattle.std.specs.Fn.{Called}
use Rattle.std.specs.Iterator.{YieldsThen}
use Rattle.std.specs.List.{FoldsTo, range_with_len, list_all}
use Rattle.std.specs.Option.{MatchOption}
use Rattle.std.specs.Prelude.{Option}
use Rattle.std.proofs.iter.Yields.{nat_range_steps}
use Rattle.std.proofs.lemmas.Iterator.{YieldsList-from_range}
use Rattle.std.proofs.lemmas.Iterator.Search.{all_from_yields_List}
use Rattle.std.proofs.Math.Bool.{and_assoc}
use Rattle.view.specs.Outline.{all}
use Rattle.view.proofs.All.{all_same}

all_first : (f : ℕ → Bool) (n : ℕ) → all f (suc n) ≡ (f 0 && all (λ k. f (suc k)) n)
unfolding all
all_first f zero = go (f 0)
  where
    go : (b : Bool) → (true && b) ≡ (b && true)
    go true = refl
    go false = refl
all_first f (suc n) = ap (λ (b : Bool). b && f (suc n)) (all_first f n) ∙ and_assoc (f 0) (all (λ k. f (suc k)) n) (f (suc n))

all_from : (f : ℕ → Bool) (a n : ℕ) → list_all f (range_with_len a n) ≡ all (λ k. f (a + k)) n
unfolding all
all_from f a zero = refl
all_from f a (suc n) =
    let e : a + 0 ≡ a = omega arith in
    ap₂ (λ (k : ℕ) (b : Bool). f k && b) (sym e) (all_from f (a + 1) n ∙ all_same _ _ n (λ k h. ap f (omega arith)))
    ∙ sym (all_first (λ k. f (a + k)) n)

-- what `(0..n).all(f)` answers, where f is `test`
pub all_below : {F : Type 0} {g : Mut F (ℕ × Unit {0}) Bool} {u : Range ℕ} {f : F} {r : Bool} (test : ℕ → Bool) (n : ℕ)
    → (xs : List ℕ) × (o : Option ℕ) × (j : F) × YieldsThen nat_range_steps (record { start = 0; end = n }) xs o u × FoldsTo (λ p x q. Called g p (x, tt) true q) f xs j × MatchOption o (r ≡ true) (λ x. (r ≡ false) × ((h : F) × Called g j (x, tt) false h))
    → ((x : ℕ) (b : Bool) (q : F) → Called g f (x, tt) b q → (q ≡ f) × (b ≡ test x)) → r ≡ all test n
all_below {u = u} {f} {r} test n ran each =
    all_from_yields_List test u f r ran (YieldsList-from_range 0 n n refl (omega arith)) each
    ∙ all_from test 0 n ∙ all_same _ _ n (λ k h. ap test (omega arith))
