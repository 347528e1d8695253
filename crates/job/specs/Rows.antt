-- The rows of a list, and texts joined. "views and positions count from 0; each line ends in LF."
use Rattle.std.specs.Prelude.{ℕ, zero, suc, ◌+◌, ◌*◌, List, [], ◌∷◌, ◌++◌, Float}
use Rattle.lists.specs.Plain.{Vert}
use Rattle.view.specs.Outline.{src_of}
use Rattle.text.specs.Ascii.{ascii}
use Rattle.text.specs.Digits.{decimal, float}

abbrev pub vert : Float → Float → Float → Vert Float
vert x y b = record { x = x; y = y; bulge = b }

-- "position, x, y, bulge"
unfoldable pub row : ℕ → Vert Float → List ℕ
row k v = decimal k ++ float v.x ++ float v.y ++ float v.bulge ++ ascii "\n"

-- a row's most bytes, for a position of at most four digits
abbrev pub row_bytes : ℕ
row_bytes = 4 + 3 * 17 + 1

-- f k x, f (k + 1) y, .. of the elements x, y, .. of a list, joined
unfoldable pub numbered : {A : Type 0} → (ℕ → A → List ℕ) → ℕ → List A → List ℕ
numbered f k [] = []
numbered f k (x ∷ l) = f k x ++ numbered f (suc k) l

-- f 0, f 1, .., f (n - 1), joined
unfoldable pub joined : (ℕ → List ℕ) → ℕ → List ℕ
joined f zero = []
joined f (suc n) = joined f n ++ f n

-- the rows of the first n vertices of a list in threes
unfoldable pub rows : List Float → ℕ → List ℕ
rows l n = joined (λ k. row k (src_of l k)) n
