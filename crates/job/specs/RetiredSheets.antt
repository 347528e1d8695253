-- A stored sheet with flag bit 1 prints what it prints with the bit clear, but for one word: "Two box functions gave two sheet limits for one panel."
use Rattle.std.specs.Prelude.{◌≡◌, ℕ, ◌+◌, List, ◌∷◌, ◌++◌}
use Rattle.real.specs.Reply.{given}
use Rattle.text.specs.Ascii.{ascii}
use Rattle.job.specs.Header.{header_value, closed}
use Rattle.job.specs.Rows.{numbered}
use Rattle.job.specs.Sheet.{outline_of, records_of, sheet_of}
use Rattle.job.specs.Lines.{outline_line}
use Rattle.job.specs.Views.{view_text}
use Rattle.job.specs.Parts.{box_head, answer_text, sheet_text}

-- what the sheet b prints with `end` at the end of its box line
unfoldable pub text_ending : List ℕ → List ℕ → List ℕ
text_ending end b =
    let h = header_value b in
    answer_text (sheet_of b (given (outline_line h.vertices h.views (closed h) ++ (box_head b ++ end) ++ numbered (view_text (closed h) (outline_of b)) 0 (records_of b))))

-- of a sheet whose bytes are v, w, f and then `rest`, where bit 1 of f, the flags' lower byte, is clear; f + 2 is that byte with the bit set
pub record RetiredSheets (v w f : ℕ) (rest : List ℕ) : Type 0 where
  pub clear : sheet_text (v ∷ w ∷ f ∷ rest) ≡ text_ending (ascii "\n") (v ∷ w ∷ f ∷ rest)
  -- "Stored sheets with flag bit 1 are still read: the program prints the true box and ends that line with the word `retired`, also after `box none`."
  pub set : sheet_text (v ∷ w ∷ (f + 2) ∷ rest) ≡ text_ending (ascii " retired\n") (v ∷ w ∷ f ∷ rest)
