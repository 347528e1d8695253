-- What a call leaves, by how it came to its end.
use mathlib.Core.Path.{◌≡◌, refl, sym, ap, ap₂, subst, ◌∙◌}
use mathlib.Core.Bool.{Bool, true, false}
use mathlib.Core.List.{List, ◌++◌, append-nil}
use native.Mathlib.Omega.{arith}
use Prim.Native.Nat.{ℕ, ◌≤◌, ◌<◌}
use lib.ListN.{length, drop_of_length-le}
use lib.Ieee.{Float}
use borrow.Author.Tests.{le-leb, lt-leb}
use Rattle.std.specs.Prelude.{Result, Ok, Err}
use Rattle.std.specs.Result.{IsErr, IsErrAnd}
use Rattle.std.proofs.lemmas.Result.{err_from_is_err_and}
use Rattle.real.specs.Refusal.{number_of, lacks_room}
use Rattle.real.specs.Reply.{Reply, refused, given, check, and_then, reply, reply_by}
use Rattle.real.specs.declared.refusal.Refusal.{Refusal}
use Rattle.real.specs.declared.refusal.Refusal.TheVariants as refusal
use Rattle.lent.specs.Lent.{code_of, done, held_by, Left, lent, in_front, has_room_of, itself, Answered, Both, both, lent_both, BothAnswered}

-- refused by the call behind it
pub refuses : {A C : Type 0} {n : ℕ} {x : Reply A} {store : A → Reply C} {before : C} → refused n ≡ x → Left x store before n before
unfolding and_then code_of held_by
refuses {C = C} {n} {x} {store} {before} e = subst (λ r. Left r store before n before) e (record { returned = refl; holds = refl })

-- what `?` hands on has the number of the refusal that it was given
pub handed_on : {X A C : Type 0} (r : Result X Refusal) (e : Refusal) {x : Reply A} {store : A → Reply C} {before after : C} → IsErr r × IsErrAnd r (λ (y : Refusal). y ≡ e) → Left x store before (number_of e) after
    → Left x store before (done r) after
handed_on r e h l = let p = err_from_is_err_and r h.1 in rw (p.1, p.2) l

-- the reply of the call behind it
pub replies : {A C : Type 0} {x y : Reply A} {store : A → Reply C} {before after : C} {n : ℕ} → x ≡ y → Left x store before n after → Left y store before n after
replies {store = store} {before} {after} {n} e l = subst (λ r. Left r store before n after) e l

-- what is stored of a value is stored of what f says of it
pub by_reading : {A B C : Type 0} (f : A → B) (r : Result A Refusal) {store : B → Reply C} {before after : C} {n : ℕ} → Left (reply r) (λ a. store (f a)) before n after → Left (reply_by f r) store before n after
unfolding and_then
by_reading f (Ok a) l = record { returned = l.returned; holds = l.holds }
by_reading f (Err e) l = record { returned = l.returned; holds = l.holds }

-- past the reading of an argument, and refused by it
pub past : {A B C : Type 0} {a : A} {x : Reply A} {y : Reply B} (call : A → Reply B) {store : B → Reply C} {before after : C} {n : ℕ} → given a ≡ x → y ≡ call a
    → Left y store before n after → Left (and_then x call) store before n after
unfolding and_then
past call e f l = replies (f ∙ ap (λ r. and_then r call) e) l

pub stops : {A B C : Type 0} {x : Reply A} (call : A → Reply B) {store : B → Reply C} {before : C} {n : ℕ} → refused n ≡ x → Left (and_then x call) store before n before
unfolding and_then
stops call e = refuses (ap (λ r. and_then r call) e)

module _ {A B : Type 0} (values : A → List B) {a : A} {before : List B} where
  -- the buffer is short
  pub short : length before < length (values a) → Answered values (given a) before lacks_room before
  unfolding and_then code_of held_by lent
  short h = record { returned = simp (lt-leb _ _ h); holds = simp (lt-leb _ _ h) }

  pub stores : {after : List B} → length (values a) ≤ length before → after ≡ in_front (values a) before → Answered values (given a) before 0 after
  unfolding and_then code_of held_by lent
  stores h e = record { returned = simp (le-leb _ _ h); holds = simp (le-leb _ _ h) e }

  -- a buffer just as long holds the values and nothing else
  pub fills : {after : List B} {n : ℕ} → length (values a) ≡ length before → Answered values (given a) before n after → after ≡ values a
  unfolding and_then held_by lent
  fills h w =
      let fits : length (values a) ≤ length before = omega (arith, h) in
      let all : length before ≤ length (values a) = omega (arith, h) in
      (simp (le-leb _ _ fits) at w.holds) ∙ ap (λ (l : List B). values a ++ l) (drop_of_length-le before all) ∙ append-nil (values a)

-- the same values, of another answer
pub stored_as : {A A' B : Type 0} (values : A → List B) (values' : A' → List B) {a : A} {a' : A'} {before after : List B} {n : ℕ} → values a ≡ values' a'
    → Answered values (given a) before n after → Answered values' (given a') before n after
unfolding and_then
stored_as {B = B} values values' {before = before} {after} {n} e w =
    record {
      returned = w.returned ∙ ap (λ (l : List B). code_of (lent l before)) e;
      holds = w.holds ∙ ap (λ (l : List B). held_by (lent l before) before) e;
    }

-- ---- two buffers

pub positive : (e : Refusal) → 1 ≤ number_of e
positive refusal.BadNumber = omega arith
positive refusal.BadTolerance = omega arith
positive refusal.BadOutline = omega arith
positive refusal.BadIndex = omega arith
positive refusal.BadOffset = omega arith
positive refusal.NoArc = omega arith
positive refusal.UnevenBulges = omega arith
positive refusal.NoRoom = omega arith
positive refusal.BadTrim = omega arith
positive refusal.NotClosed = omega arith
positive refusal.BadSheet = omega arith
positive refusal.BadRecord = omega arith
positive refusal.BadText = omega arith

-- how the writing of values went
data Went {B : Type 0} (values before : List B) (n : ℕ) (after : List B) : Type 0 where
  full : has_room_of values before ≡ true → n ≡ 0 → after ≡ in_front values before → Went values before n after
  none : has_room_of values before ≡ false → n ≡ lacks_room → after ≡ before → Went values before n after

went_by : {B : Type 0} {values before : List B} {n : ℕ} {after : List B} (b : Bool) → has_room_of values before ≡ b → n ≡ code_of (check b lacks_room (given (in_front values before)))
    → after ≡ held_by (check b lacks_room (given (in_front values before))) before → Went values before n after
unfolding code_of held_by
went_by true e r h = full e r h
went_by false e r h = none e r h

went : {B : Type 0} {values before : List B} {n : ℕ} {after : List B} → Answered itself (given values) before n after → Went values before n after
unfolding and_then code_of held_by lent
went {values = values} {before} w = went_by (has_room_of values before) refl w.returned w.holds

module _ {A : Type 0} (values : A → Both) {a : A} {w : List ℕ} {l : List Float} where
  pub first_short : length w < length (values a).words → BothAnswered values (given a) (both w l) lacks_room (both w l)
  unfolding and_then code_of held_by lent_both
  first_short h = record { returned = simp (lt-leb _ _ h); holds = simp (lt-leb _ _ h) }

  module _ (room : length (values a).words ≤ length w) where
    second_went : {l' : List Float} {n : ℕ} → (n ≡ 0 → ⊥) → Went (values a).numbers l n l' → BothAnswered values (given a) (both w l) n (both w l')
    unfolding and_then code_of held_by lent_both
    second_went some (full e z h) = absurd (some z)
    second_went some (none e z h) = record { returned = z ∙ simp (le-leb _ _ room, e); holds = ap (both w) h ∙ simp (le-leb _ _ room, e) }

    pub second_short : {l' : List Float} (e : Refusal) → Answered itself (given (values a).numbers) l (number_of e) l' → BothAnswered values (given a) (both w l) (number_of e) (both w l')
    second_short e s = second_went (λ z. absurd (omega (arith, positive e))) (went s)

    both_went : {w' : List ℕ} {l' : List Float} {m : ℕ} → Went (values a).numbers l 0 l' → Went (values a).words w m w' → BothAnswered values (given a) (both w l) m (both w' l')
    unfolding and_then code_of held_by lent_both
    both_went (none e z h) q = absurd (omega arith)
    both_went (full e z h) (full e' z' h') = record { returned = z' ∙ simp (e, e'); holds = ap₂ both h' h ∙ simp (e, e') }
    both_went (full e z h) (none e' z' h') = let f : true ≡ false = sym (le-leb _ _ room) ∙ e' in let g : ◌≡◌ {A = ℕ} 0 1 = cc in absurd (omega arith)

    pub both_stored : {w' : List ℕ} {l' : List Float} {m : ℕ} → Answered itself (given (values a).numbers) l 0 l' → Answered itself (given (values a).words) w m w'
        → BothAnswered values (given a) (both w l) m (both w' l')
    both_stored s t = both_went (went s) (went t)
