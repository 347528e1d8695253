-- What the answer of a chain of checks says: each test before it holds, with both its parts, and a refusal does not depend on what comes after it. What the answer of one call and then another says.
use mathlib.Core.Path.{◌≡◌, refl, sym, ap}
use mathlib.Core.Bool.{Bool, true, false, ◌&&◌, false≢true}
use Prim.Native.Nat.{ℕ}
use native.Mathlib.Omega.{arith}
use Rattle.std.specs.Prelude.{Result}
use Rattle.std.specs.Result.{IsErr, IsErrAnd}
use Rattle.std.proofs.lemmas.Result.{err_from_is_err_and}
use Rattle.real.specs.Refusal.{number_of}
use Rattle.real.specs.Reply.{Reply, refused, given, check, and_then, reply, reply_by}
use Rattle.real.specs.declared.refusal.Refusal.{Refusal}

pub same_given : {A : Type 0} {x y : A} → given x ≡ given y → x ≡ y
same_given e = cc

pub never_given : {A X : Type 0} {n : ℕ} {y : A} → ◌≡◌ {A = Reply A} (refused n) (given y) → X
never_given e = let z : ◌≡◌ {A = ℕ} 0 1 = cc in absurd (omega arith)

pub check_passed : {A : Type 0} {b : Bool} {a : A} (n : ℕ) (rest : Reply A) → given a ≡ check b n rest → (b ≡ true) × (given a ≡ rest)
check_passed {b = true} n rest e = (refl, e)
check_passed {b = false} n rest e = never_given (sym e)

pub check_given : {A : Type 0} {a : A} (b : Bool) (n : ℕ) (rest : Reply A) → check b n rest ≡ given a → (b ≡ true) × (rest ≡ given a)
check_given b n rest e = let p = check_passed {b = b} n rest (sym e) in (p.0, sym p.1)

-- a refusal of one check alone is that check's
pub check_failed : {A : Type 0} {b : Bool} {m : ℕ} (n : ℕ) (a : A) → refused m ≡ check b n (given a) → (b ≡ false) × (m ≡ n)
check_failed {b = false} n a e = (refl, cc)
check_failed {b = true} n a e = never_given e

pub check_refused : {A B : Type 0} (b : Bool) (m n : ℕ) (rest : Reply A) (rest' : Reply B) → (refused m ≡ rest → refused m ≡ rest') → refused m ≡ check b n rest → refused m ≡ check b n rest'
check_refused true m n rest rest' f e = f e
check_refused false m n rest rest' f e = let q : m ≡ n = cc in ap refused q

pub refused_alike : {A B : Type 0} (b : Bool) (m n : ℕ) (rest : Reply A) (rest' : Reply B) → (rest ≡ refused m → rest' ≡ refused m) → check b n rest ≡ refused m → check b n rest' ≡ refused m
refused_alike b m n rest rest' f e = sym (check_refused b m n rest rest' (λ h. sym (f (sym h))) (sym e))

-- the two parts of a test
pub and_both : (a b : Bool) → (a && b) ≡ true → (a ≡ true) × (b ≡ true)
and_both true b e = (refl, e)
and_both false b e = absurd (false≢true e)

-- what goes on past a call has that call's answer
pub went_on : {A B : Type 0} {b : B} (x : Reply A) (rest : A → Reply B) → and_then x rest ≡ given b → (a : A) × (x ≡ given a) × (rest a ≡ given b)
unfolding and_then
went_on (given a) rest e = (a, refl, e)
went_on (refused n) rest e = never_given e

-- two rests, one after the other, are one
pub joined : {A B C : Type 0} (x : Reply A) (f : A → Reply B) (h : B → Reply C) (k : A → Reply C) → ((a : A) → k a ≡ and_then (f a) h) → and_then x k ≡ and_then (and_then x f) h
unfolding and_then
joined (given a) f h k e = e a
joined (refused n) f h k e = refl

-- what `?` hands on is refused with the same number
pub handed : {A : Type 0} (r : Result A Refusal) (e : Refusal) → IsErr r × IsErrAnd r (λ (x : Refusal). x ≡ e) → reply r ≡ refused (number_of e)
handed r e h = let p = err_from_is_err_and r h.1 in rw (p.1, p.2) refl

pub handed_by : {A B : Type 0} (f : A → B) (r : Result A Refusal) (e : Refusal) → IsErr r × IsErrAnd r (λ (x : Refusal). x ≡ e) → reply_by f r ≡ refused (number_of e)
handed_by f r e h = let p = err_from_is_err_and r h.1 in rw (p.1, p.2) refl
