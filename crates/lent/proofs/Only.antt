-- "Prove that no second answer fits": a promise's reply gives the code and what the buffer holds, and the root gives its reply. The code gives the answer.
use mathlib.Core.Path.{◌≡◌, refl, sym, ap, ◌∙◌}
use mathlib.Core.List.{List}
use native.Mathlib.Omega.{arith}
use Prim.Native.Nat.{ℕ}
use lib.Ieee.{Float, binary64}
use Rattle.std.specs.Prelude.{Result, Ok, Err}
use Rattle.real.specs.Reply.{Reply, refused}
use Rattle.real.specs.declared.refusal.Refusal.{Refusal}
use Rattle.real.proofs.Only.{only_reply}
use Rattle.real.proofs.Same.{reply_same}
use Rattle.lent.specs.Lent.{done, Left, Answered, Both, BothAnswered, RootAnswered}
use Rattle.lent.proofs.Laws.{positive, replies}

module _ {A C : Type 0} {reply : Reply A} {store : A → Reply C} {before after after' : C} {n n' : ℕ} where
  only_left : Left reply store before n after → Left reply store before n' after' → (n ≡ n') × (after ≡ after')
  only_left p q = (p.returned ∙ sym q.returned, p.holds ∙ sym q.holds)

-- two codes and two buffers that meet one promise are the same
pub only_answered : {A B : Type 0} (values : A → List B) {reply : Reply A} {before after after' : List B} {n n' : ℕ} → Answered values reply before n after → Answered values reply before n' after'
    → (n ≡ n') × (after ≡ after')
only_answered values p q = only_left p q

-- and so of a pair of buffers
pub only_both : {A : Type 0} (values : A → Both) {reply : Reply A} {before after after' : Both} {n n' : ℕ} → BothAnswered values reply before n after → BothAnswered values reply before n' after'
    → (n ≡ n') × (after ≡ after')
only_both values p q = only_left p q

-- and of square root, which is stated by what a root is
pub only_root_answered : {x : Float} {before after after' : List Float} {n n' : ℕ} → RootAnswered x before n after → RootAnswered x before n' after' → (n ≡ n') × (after ≡ after')
only_root_answered {x} p q = only_left (replies (only_reply binary64 x p.reply q.reply p.root q.root) p.answered) q.answered

-- 0 is no refusal's number, and no two refusals have one
pub done_same : (a b : Result (Unit {0}) Refusal) → done a ≡ done b → a ≡ b
done_same (Ok u) (Ok v) e = refl
done_same (Ok u) (Err r) e = absurd (omega (arith, positive r, e))
done_same (Err r) (Ok u) e = absurd (omega (arith, positive r, e))
done_same (Err r) (Err s) e = reply_same (Err r) (Err s) (ap refused e)

module _ (a b : Result (Unit {0}) Refusal) where
  -- two answers and what they leave, in one buffer or two, that meet one promise are the same
  pub only_done : {A C : Type 0} {reply : Reply A} {store : A → Reply C} {before after after' : C} → Left reply store before (done a) after → Left reply store before (done b) after' → (a ≡ b) × (after ≡ after')
  only_done p q = let o = only_left p q in (done_same a b o.0, o.1)

  pub only_root_done : {x : Float} {before after after' : List Float} → RootAnswered x before (done a) after → RootAnswered x before (done b) after' → (a ≡ b) × (after ≡ after')
  only_root_done p q = let o = only_root_answered p q in (done_same a b o.0, o.1)
