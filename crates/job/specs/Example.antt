-- Document 01's example: "two vertices (0,0,1), (1,0,0), flags 0, one view with start 0, offset 0, updated start (0,0,1), end bulge 1, end (1,0),
-- forward", and "All of its output"; the cut number is a last field there, "so 01's reads `view 0 7 cut 2 0`".
use Rattle.std.specs.Prelude.{◌≡◌, ℕ, List, [], ◌∷◌, ◌++◌}
use Rattle.text.specs.Ascii.{ascii}
use Rattle.job.specs.Parts.{sheet_text}

-- the f64 0 and 1
abbrev nought : List ℕ
nought = 0 ∷ 0 ∷ 0 ∷ 0 ∷ 0 ∷ 0 ∷ 0 ∷ 0 ∷ []

abbrev one : List ℕ
one = 0 ∷ 0 ∷ 0 ∷ 0 ∷ 0 ∷ 0 ∷ 240 ∷ 63 ∷ []

abbrev word : ℕ → List ℕ
word n = n ∷ 0 ∷ 0 ∷ 0 ∷ []

-- the sheet, with the flags' lower byte and the four bytes of the cut number
abbrev pub example_sheet : ℕ → List ℕ → List ℕ
example_sheet flags number =
    1 ∷ 0 ∷ flags ∷ 0 ∷ 2 ∷ 0 ∷ 1 ∷ 0 ∷ []
    ++ word 16 ++ word 64
    ++ nought ++ nought ++ one
    ++ one ++ nought ++ nought
    ++ word 0 ++ word 0 ++ nought ++ nought ++ one ++ one ++ one ++ nought ++ word 0 ++ number

-- its text, with what ends the box line, and the cut number in decimal
abbrev pub example_text : List ℕ → List ℕ → List ℕ
example_text end number = ascii "outline 2 1 open\nbox 0000000000000000 bfe0000000000000 3ff0000000000000 0000000000000000" ++ end ++ ascii "view 0 7 cut 2 " ++ number ++ ascii "\n0 0000000000000000 0000000000000000 3ff0000000000000\n1 3ff0000000000000 0000000000000000 0000000000000000\n"

-- a sheet of nothing, with flag bit 1
abbrev pub empty_sheet : List ℕ
empty_sheet = 1 ∷ 0 ∷ 2 ∷ 0 ∷ word 0 ++ word 16 ++ word 16

pub record Examples : Type 0 where
  pub example : sheet_text (example_sheet 0 (word 0)) ≡ example_text (ascii "\n") (ascii "0")
  -- the least cut number, and the greatest
  pub first : sheet_text (example_sheet 0 (word 1)) ≡ example_text (ascii "\n") (ascii "1")
  pub last : sheet_text (example_sheet 0 (255 ∷ 255 ∷ 255 ∷ 255 ∷ [])) ≡ example_text (ascii "\n") (ascii "4294967295")
  -- flag bit 1
  pub retired : sheet_text (example_sheet 2 (word 0)) ≡ example_text (ascii " retired\n") (ascii "0")
  pub empty : sheet_text empty_sheet ≡ ascii "outline 0 0 open\nbox none retired\n"
