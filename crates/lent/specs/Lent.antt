-- What a call returns and what it leaves in lent buffers, of the reply of the call behind it.
use Rattle.std.specs.Prelude.{ℕ, ◌≡◌, Result, Ok, Err, Bool, ◌&&◌, List, [], ◌∷◌, ◌++◌, length, drop, leb, Float}
use Rattle.std.specs.Float.{binary64}
use Rattle.real.specs.Refusal.{number_of, lacks_room}
use Rattle.real.specs.Reply.{Reply, refused, given, check, and_then}
use Rattle.real.specs.declared.refusal.Refusal.{Refusal}
use Rattle.real.specs.Sqrt.{IsSqrt}

-- 0 where it answers, else the refusal
unfoldable pub code_of : {A : Type 0} → Reply A → ℕ
code_of (refused n) = n
code_of (given a) = 0

-- the same of a call that says whether it is done
abbrev pub done : {A : Type 0} → Result A Refusal → ℕ
done (Ok a) = 0
done (Err e) = number_of e

-- "A refusal .. writes to no buffer."
unfoldable pub held_by : {C : Type 0} → Reply C → C → C
held_by (refused n) before = before
held_by (given after) before = after

-- a call that replies, and then hands its answer on to be stored: the code that it returns, and what the lent buffer holds after it
pub record Left {A C : Type 0} (reply : Reply A) (store : A → Reply C) (before : C) (code : ℕ) (after : C) : Type 0 where
  pub returned : code ≡ code_of (and_then reply store)
  pub holds : after ≡ held_by (and_then reply store) before

-- ---- one buffer

-- the values in front, "where places past the list keep what they held"
abbrev pub in_front : {B : Type 0} → List B → List B → List B
in_front values before = values ++ drop (length values) before

abbrev pub has_room_of : {B : Type 0} → List B → List B → Bool
has_room_of values before = leb (length values) (length before)

-- 8: "a lent buffer is shorter than the list"
unfoldable pub lent : {B : Type 0} → List B → List B → Reply (List B)
lent values before = check (has_room_of values before) lacks_room (given (in_front values before))

abbrev pub itself : {B : Type 0} → B → B
itself b = b

-- a call that writes its answer's values
abbrev pub Answered : {A B : Type 0} → (A → List B) → Reply A → List B → ℕ → List B → Type 0
Answered values reply before = Left reply (λ a. lent (values a) before) before

-- one value
abbrev pub one : {B : Type 0} → B → List B
one b = b ∷ []

-- square root is stated by what a root is; `only_root_answered` of proofs/Only.antt says that one code and one buffer fit
pub record RootAnswered (x : Float) (before : List Float) (code : ℕ) (after : List Float) : Type 0 where
  pub reply : Reply Float
  pub root : IsSqrt binary64 x reply
  pub answered : Answered one reply before code after

-- ---- a buffer of whole numbers and one of floats

pub record Both : Type 0 where
  pub words : List ℕ
  pub numbers : List Float

abbrev pub both : List ℕ → List Float → Both
both w n = record { words = w; numbers = n }

-- 8 where either is short
unfoldable pub lent_both : Both → Both → Reply Both
lent_both values before =
    check (has_room_of values.words before.words && has_room_of values.numbers before.numbers) lacks_room
    (given (both (in_front values.words before.words) (in_front values.numbers before.numbers)))

abbrev pub BothAnswered : {A : Type 0} → (A → Both) → Reply A → Both → ℕ → Both → Type 0
BothAnswered values reply before = Left reply (λ a. lent_both (values a) before) before
