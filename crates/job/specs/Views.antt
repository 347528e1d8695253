-- What a view prints, and what the buffer that it is listed in holds afterwards.
use Rattle.std.specs.Prelude.{◌≡◌, ℕ, ◌+◌, ◌*◌, ◌≤◌, Bool, List, ◌++◌, length, Float}
use Rattle.real.specs.Reply.{Reply, refused, given}
use Rattle.plane.specs.Grade.{double}
use Rattle.plane.specs.Range.{most_vertices}
use Rattle.view.specs.Record.{vertices, listed}
use Rattle.view.specs.Answers.{list_of, written}
use Rattle.view.specs.Validation.{Verdict, validate_of, MarkCase, cut, hold, mark_of}
use Rattle.view.specs.declared.view_data.PlineViewData.{PlineViewData}
use Rattle.job.specs.Rows.{row, row_bytes, numbered}
use Rattle.text.specs.Wrote.{Piece}
use Rattle.job.specs.Lines.{refused_line, view_head, view_line}

-- "view number, verdict, cut or hold, count; position, x, y, bulge"; "A hold view prints count 0 and no vertices." Of both the cut number is the last field
unfoldable pub mark_text : List Float → PlineViewData → ℕ → ℕ → MarkCase → List ℕ
mark_text s d k verdict cut = view_line k verdict cut (vertices d) d.cut_number ++ numbered row 0 (listed double s d)
mark_text s d k verdict hold = view_line k verdict hold 0 d.cut_number

-- "A refused view prints `view k refused N`"; with a cut number too "a refused view's line is unchanged"
unfoldable pub verdict_text : Bool → List Float → PlineViewData → ℕ → Reply Verdict → List ℕ
verdict_text closed s d k (refused n) = view_head k ++ refused_line n
verdict_text closed s d k (given v) = mark_text s d k v.number (mark_of closed s d v)

-- view k, with the record d, over the outline s
unfoldable pub view_text : Bool → List Float → ℕ → PlineViewData → List ℕ
view_text closed s k d = verdict_text closed s d k (validate_of double double.line s d)

-- ---- the list's buffer: a cut view is listed there, and nothing else writes to it

unfoldable pub mark_buffer : List Float → PlineViewData → List Float → MarkCase → List Float
mark_buffer s d l cut = written double s d l
mark_buffer s d l hold = l

unfoldable pub verdict_buffer : Bool → List Float → PlineViewData → List Float → Reply Verdict → List Float
verdict_buffer closed s d l (refused n) = l
verdict_buffer closed s d l (given v) = mark_buffer s d l (mark_of closed s d v)

unfoldable pub view_buffer : Bool → List Float → PlineViewData → List Float → List Float
view_buffer closed s d l = verdict_buffer closed s d l (validate_of double double.line s d)

-- ---- sizes: the numbers of the longest list, and the bytes that no part of the text exceeds

abbrev pub list_numbers_of : ℕ
list_numbers_of = 3 * (most_vertices + 2)

abbrev pub part_bytes : ℕ
part_bytes = 100 + row_bytes * (most_vertices + 2)

-- what the inner functions promise of a part: its text t stands at the start of a buffer with room for it, and is no longer than any part
pub record Part (l t l' : List ℕ) (n : ℕ) : Type 0 where
  pub piece : Piece l 0 t l' n
  pub short : length t ≤ part_bytes

-- what they ask of a cut view: into a buffer of m numbers it lists without refusal
pub record Lists (s : List Float) (d : PlineViewData) (m : ℕ) : Type 0 where
  pub list : list_of double s d m ≡ given (vertices d)
  pub few : d.end_index_offset ≤ most_vertices
  pub room : 3 * vertices d ≤ m
