-- A reply tells its answer: no two refusals have one number.
use mathlib.Core.Path.{◌≡◌, refl, sym, ap, ◌∙◌}
use Prim.Native.Nat.{ℕ}
use Rattle.std.specs.Prelude.{cond, eqb, Result, Ok, Err}
use Rattle.real.specs.Refusal.{number_of}
use Rattle.real.specs.Reply.{Reply, refused, given, reply, reply_by}
use Rattle.real.specs.declared.refusal.Refusal.{Refusal}
use Rattle.real.specs.declared.refusal.Refusal.TheVariants as refusal

-- a reply that can be read back tells its answer
pub told : {A B : Type 0} {reply : A → Reply B} (back : Reply B → A) → ((a : A) → back (reply a) ≡ a) → (a b : A) → reply a ≡ reply b → a ≡ b
told back read a b e = sym (read a) ∙ ap back e ∙ read b

-- the refusal of a number
abbrev named : ℕ → Refusal
named n =
    cond (eqb n 1) refusal.BadNumber
    (cond (eqb n 2) refusal.BadTolerance
    (cond (eqb n 3) refusal.BadOutline
    (cond (eqb n 4) refusal.BadIndex
    (cond (eqb n 5) refusal.BadOffset
    (cond (eqb n 6) refusal.NoArc
    (cond (eqb n 7) refusal.UnevenBulges
    (cond (eqb n 8) refusal.NoRoom
    (cond (eqb n 9) refusal.BadTrim
    (cond (eqb n 10) refusal.NotClosed
    (cond (eqb n 11) refusal.BadSheet
    (cond (eqb n 12) refusal.BadRecord refusal.BadText)))))))))))

abbrev back : {A B : Type 0} → (B → A) → Reply B → Result A Refusal
back g (given b) = Ok (g b)
back g (refused n) = Err (named n)

read : (e : Refusal) → named (number_of e) ≡ e
read refusal.BadNumber = refl
read refusal.BadTolerance = refl
read refusal.BadOutline = refl
read refusal.BadIndex = refl
read refusal.BadOffset = refl
read refusal.NoArc = refl
read refusal.UnevenBulges = refl
read refusal.NoRoom = refl
read refusal.BadTrim = refl
read refusal.NotClosed = refl
read refusal.BadSheet = refl
read refusal.BadRecord = refl
read refusal.BadText = refl

read_back : {A B : Type 0} (f : A → B) (g : B → A) → ((a : A) → g (f a) ≡ a) → (a : Result A Refusal) → back g (reply_by f a) ≡ a
read_back f g q (Ok a) = ap Ok (q a)
read_back f g q (Err e) = ap Err (read e)

-- so does one by an f that can be read back
pub reply_by_same : {A B : Type 0} (f : A → B) (g : B → A) → ((a : A) → g (f a) ≡ a) → (a b : Result A Refusal) → reply_by f a ≡ reply_by f b → a ≡ b
reply_by_same f g q = told (back g) (read_back f g q)

reply_is : {A : Type 0} (a : Result A Refusal) → reply a ≡ reply_by (λ (x : A). x) a
reply_is (Ok a) = refl
reply_is (Err e) = refl

pub reply_same : {A : Type 0} (a b : Result A Refusal) → reply a ≡ reply b → a ≡ b
reply_same {A = A} a b e = reply_by_same (λ (x : A). x) (λ (x : A). x) (λ (x : A). refl) a b (sym (reply_is a) ∙ e ∙ reply_is b)
