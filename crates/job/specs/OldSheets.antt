-- What a sheet prints at a table with another vertex limit: "The layout and version stay, and every old sheet reads the same. A table not yet updated
-- refuses a larger sheet with 11, as we want."
use Rattle.std.specs.Prelude.{◌≡◌, ℕ, ◌/◌, ◌%◌, ◌≤◌, ◌<◌, Bool, ◌&&◌, List, ◌++◌, length, leb, eqb, Float}
use Rattle.real.specs.Refusal.{bad_number, bad_outline, bad_sheet, bad_record}
use Rattle.real.specs.Reply.{Reply, given, check}
use Rattle.real.specs.Tally.{plain}
use Rattle.plane.specs.Grade.{double}
use Rattle.plane.specs.Range.{most_vertices}
use Rattle.view.specs.Outline.{numbers_ok}
use Rattle.view.specs.Record.{record_ok}
use Rattle.view.specs.Validation.{Verdict, counts_by}
use Rattle.view.specs.declared.view_data.PlineViewData.{PlineViewData}
use Rattle.job.specs.Header.{header_value, closed, header_under}
use Rattle.job.specs.Sheet.{vertices, outline_of, records_of, records_ok, vertices_ok}
use Rattle.job.specs.Rows.{numbered}
use Rattle.job.specs.Lines.{refused_line, outline_line}
use Rattle.job.specs.Views.{verdict_text}
use Rattle.job.specs.Parts.{box_line, answer_text, sheet_text}

-- "Lace gaskets overrun 1,024."
abbrev pub old_most : ℕ
old_most = 1024

-- A sheet's text asks for the limit in two tests, the header's and validation's. Here both take another, and what they stand in is written out around them; validation's line limit is the default, which is not refused.
module _ (most : ℕ) where
  unfoldable pub whole_under : ℕ → Bool
  whole_under n = eqb (n % 3) 0 && leb (n / 3) most

  unfoldable pub validate_under : List Float → PlineViewData → Reply Verdict
  validate_under s d =
      check (whole_under (length s)) bad_outline
      (check (numbers_ok double s && record_ok double d) bad_number
      (counts_by plain double double.line s d))

  unfoldable pub view_text_under : Bool → List Float → ℕ → PlineViewData → List ℕ
  view_text_under closed s k d = verdict_text closed s d k (validate_under s d)

  unfoldable pub whole_text_under : List ℕ → List ℕ
  whole_text_under b =
      let h = header_value b in
      outline_line h.vertices h.views (closed h) ++ box_line b ++ numbered (view_text_under (closed h) (outline_of b)) 0 (records_of b)

  unfoldable pub sheet_text_under : List ℕ → List ℕ
  sheet_text_under b =
      answer_text
      (check (header_under most (header_value b) (length b)) bad_sheet
      (check (records_ok b) bad_record
      (check (vertices_ok b) bad_number
      (given (whole_text_under b)))))

-- of any bytes b
pub record OldSheets (b : List ℕ) : Type 0 where
  -- under the limit that stands this is the text that stands
  pub stands : sheet_text_under most_vertices b ≡ sheet_text b
  -- up to 2,000 vertices a sheet prints what it would under any limit that it keeps: it is never refused for their number
  pub read : (m : ℕ) → vertices b ≤ m → vertices b ≤ most_vertices → sheet_text_under m b ≡ sheet_text b
  -- "every old sheet reads the same"
  pub same : vertices b ≤ old_most → sheet_text_under old_most b ≡ sheet_text b
  -- "A table not yet updated refuses a larger sheet with 11"
  pub older : old_most < vertices b → sheet_text_under old_most b ≡ refused_line bad_sheet
  -- "Refusals: [...] 11 at the new number."
  pub larger : most_vertices < vertices b → sheet_text b ≡ refused_line bad_sheet
