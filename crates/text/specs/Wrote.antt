-- What a function that writes into a lent buffer promises.
use Rattle.std.specs.Prelude.{◌≡◌, ℕ, ◌+◌, ◌≤◌, ◌<◌, List, ◌++◌, length, take, drop}
use Rattle.std.proofs.lemmas.List.Edits.{sets}

-- the buffer l, with the text t stored from `at` on, is l', and the text ends at e
pub record Wrote (l : List ℕ) (at : ℕ) (t : List ℕ) (l' : List ℕ) (e : ℕ) : Type 0 where
  pub text : l' ≡ sets l at t
  pub end : e ≡ at + length t

-- the same where l has room for the text
pub record Piece (l : List ℕ) (at : ℕ) (t : List ℕ) (l' : List ℕ) (e : ℕ) : Type 0 where
  pub wrote : at + length t ≤ length l → Wrote l at t l' e

-- and where it has none, l is left as it was, and e is `at`
pub record Put (l : List ℕ) (at : ℕ) (t : List ℕ) (l' : List ℕ) (e : ℕ) : Type 0 where
  pub piece : Piece l at t l' e
  pub left : length l < at + length t → (l' ≡ l) × (e ≡ at)

-- the first n bytes of l are the text t
pub record Begins (t l : List ℕ) (n : ℕ) : Type 0 where
  pub room : n ≤ length l
  pub is : take n l ≡ t

-- a buffer that held l holds l': the n bytes of the text t, and then what it held
pub record Filled (t l l' : List ℕ) (n : ℕ) : Type 0 where
  pub count : n ≡ length t
  pub room : n ≤ length l'
  pub holds : l' ≡ t ++ drop n l
