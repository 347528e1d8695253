-- Demand 3 of document 00 through the C face: rows of reversals and trims over a record's 64 bytes, each step by the library's own answer on bytes.
use Rattle.std.specs.Prelude.{◌≡◌, List, [], ◌∷◌, ℕ, length, get_or, T, Float}
use Rattle.std.specs.Float.{nan, binary64}
use Rattle.std.specs.Float.Ieee.{neg, fits}
use Rattle.real.specs.Reply.{Reply, refused, given}
use Rattle.plane.specs.Grade.{double}
use Rattle.lists.specs.Plain.{Step, turn, trim, flat, row_list}
use Rattle.view.specs.Record.{listed}
use Rattle.view.specs.Answers.{reverse_of, trim_of}
use Rattle.view.specs.Rows.{row}
use Rattle.view.specs.declared.view_data.PlineViewData.{PlineViewData}
use Rattle.record.specs.Bytes.{le32}
use Rattle.record.specs.Layout.{cut_number_at}
use Rattle.record.specs.Record.{record_from, record_bytes}
use Rattle.lent.specs.Lent.{both}
use Rattle.lent.specs.Values.{list_reply}
use Rattle.bisquefern.specs.Calls.{of_record}

-- the bytes in hand after a call: those of the record that it answers; a refused step changes nothing
abbrev pub bytes_after : List ℕ → Reply PlineViewData → List ℕ
bytes_after b (given d) = record_bytes d
bytes_after b (refused n) = b

-- an outline as a program holds it: each number is an f64
abbrev pub Doubles : List Float → Type 0
Doubles s = (k : ℕ) → T (fits binary64 (get_or s k nan))

module _ (s : List Float) where
  -- the replies that `bf_view_reverse` and `bf_view_trim` promise
  unfoldable pub step_reply : Step → List ℕ → Reply PlineViewData
  step_reply turn b = of_record b (reverse_of double s)
  step_reply (trim i j) b = of_record b (λ d. trim_of double s d i j)

  unfoldable pub bytes_row : List Step → List ℕ → List ℕ
  bytes_row [] b = b
  bytes_row (t ∷ ts) b = bytes_row ts (bytes_after b (step_reply t b))

  -- "no row of steps changes the number" that the last four bytes are
  abbrev pub NumberStays : List ℕ → Type 0
  NumberStays b = (ts : List Step) → le32 (bytes_row ts b) cut_number_at ≡ le32 b cut_number_at

  -- "Apply any row of reversals and trims. Each resulting record lists what the same steps do to the plain list." d is the record that bytes b are
  pub record BytesDemand3 (b : List ℕ) (d : PlineViewData) : Type 0 where
    -- the bytes at the end are the record at the end of the row over records, of which `Demand3` says the rest
    pub rows : (ts : List Step) → record_from (bytes_row ts b) ≡ given (row double s ts d)
    -- and the reply that `bf_view_list` promises of them is the plain list at the end, and its count
    pub lists : (ts : List Step) → let l = row_list neg double.zero ts (listed double s d) in
        of_record (bytes_row ts b) (list_reply s) ≡ given (both (length l ∷ []) (flat l))
    pub number : NumberStays b
