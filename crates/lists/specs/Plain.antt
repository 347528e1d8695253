-- Plain lists of vertices, over any type A of numbers with a negation and a zero, and what demand 3's steps do to them.
use Rattle.std.specs.Prelude.{◌≡◌, ℕ, zero, suc, ◌+◌, ◌-◌, ◌<◌, cond, ◌&&◌, List, [], ◌∷◌, ◌++◌, map, reverse, length, get_or, take, drop, ltb}

pub record Vert (A : Type 0) : Type 0 where
  pub x : A
  pub y : A
  pub bulge : A

-- f 0, f 1, .., f (n - 1)
unfoldable pub tab : {B : Type 0} → (ℕ → B) → ℕ → List B
tab f zero = []
tab f (suc n) = f zero ∷ tab (λ i. f (suc i)) n

-- vertices as numbers in threes
abbrev pub numbers : {A : Type 0} → Vert A → List A
numbers v = v.x ∷ v.y ∷ v.bulge ∷ []

unfoldable pub flat : {A : Type 0} → List (Vert A) → List A
flat [] = []
flat (v ∷ l) = v.x ∷ v.y ∷ v.bulge ∷ flat l

abbrev pub with_bulge : {A : Type 0} → Vert A → A → Vert A
with_bulge v b = record { x = v.x; y = v.y; bulge = b }

abbrev pub position : {A : Type 0} → Vert A → A × A
position v = (v.x, v.y)

-- a step of a row: a reversal, or a trim from i to j
pub data Step : Type 0 where
  turn : Step
  trim : ℕ → ℕ → Step

module _ {A : Type 0} (z : A) where
  -- the vertex at position k of a list
  abbrev pub at : List (Vert A) → ℕ → Vert A
  at l k = get_or l k (record { x = z; y = z; bulge = z })

  -- "Trim i to j keeps those vertices and ends in plus zero": position k of the vertices f from i to j
  unfoldable pub trim_at : (ℕ → Vert A) → ℕ → ℕ → ℕ → Vert A
  trim_at f i j k = with_bulge (f (i + k)) (cond (ltb k (j - i)) (f (i + k)).bulge z)

  unfoldable pub trim_list : ℕ → ℕ → List (Vert A) → List (Vert A)
  trim_list i j l = tab (trim_at (at l) i j) (suc (j - i))

module _ {A : Type 0} (neg : A → A) (z : A) where
  -- "Reversal turns the positions round, gives each segment its old bulge negated, and ends in bulge plus zero": position k of n vertices f reversed.
  -- It is the position of vertex n - 1 - k; the segment from there was the one from vertex n - 2 - k.
  unfoldable pub turn_at : (ℕ → Vert A) → ℕ → ℕ → Vert A
  turn_at f n k = with_bulge (f (n - suc k)) (cond (ltb (suc k) n) (neg (f (n - suc (suc k))).bulge) z)

  unfoldable pub turn_list : List (Vert A) → List (Vert A)
  turn_list l = tab (turn_at (at z l) (length l)) (length l)

  -- a trim is refused unless i < j < n, and "a refused trim changes nothing"
  unfoldable pub step_list : Step → List (Vert A) → List (Vert A)
  step_list turn l = turn_list l
  step_list (trim i j) l = cond (ltb i j && ltb j (length l)) (trim_list z i j l) l

  unfoldable pub row_list : List Step → List (Vert A) → List (Vert A)
  row_list [] l = l
  row_list (s ∷ ss) l = row_list ss (step_list s l)

  -- The same two steps by reverse, map, take and drop. proofs/Lists.antt shows this of every list with a vertex.
  pub record PlainSteps (l : List (Vert A)) : Type 0 where
    pub positions : map position (turn_list l) ≡ reverse (map position l)
    pub bulges : map (λ v. v.bulge) (turn_list l) ≡ reverse (map (λ v. neg v.bulge) (take (length l - 1) l)) ++ z ∷ []
    pub trimmed : (i j : ℕ) → i < j → j < length l → trim_list z i j l ≡ take (j - i) (drop i l) ++ with_bulge (at z l j) z ∷ []
