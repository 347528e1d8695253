-- Which bytes are a sheet, and what opening one gives.
use Rattle.std.specs.Prelude.{ℕ, ◌+◌, ◌*◌, Bool, List, ◌++◌, take, drop, Float}
use Rattle.real.specs.Refusal.{bad_number, bad_sheet, bad_record}
use Rattle.real.specs.Reply.{Reply, given, check}
use Rattle.plane.specs.Grade.{double}
use Rattle.plane.specs.Range.{most_vertices, vertex_ok}
use Rattle.lists.specs.Plain.{tab}
use Rattle.view.specs.Outline.{all}
use Rattle.view.specs.Answers.{buffer_after}
use Rattle.view.specs.declared.view_data.PlineViewData.{PlineViewData}
use Rattle.record.specs.Layout.{record_size}
use Rattle.record.specs.Record.{fields_ok, record_value}
use Rattle.job.specs.Header.{most_views, header_size, vertex_size, header_value, header_good}
use Rattle.job.specs.Outline.{vertex_in_of, numbers_in}
use Rattle.job.specs.declared.sheet.Opened.{Opened}

-- V and W, the outline, and the bytes of record k
abbrev pub vertices : List ℕ → ℕ
vertices b = (header_value b).vertices

abbrev pub views : List ℕ → ℕ
views b = (header_value b).views

abbrev pub outline_of : List ℕ → List Float
outline_of b = numbers_in b (3 * vertices b)

abbrev pub record_at_of : List ℕ → ℕ → List ℕ
record_at_of b k = take record_size (drop (header_size + vertex_size * vertices b + record_size * k) b)

unfoldable pub records_of : List ℕ → List PlineViewData
records_of b = tab (λ k. record_value (record_at_of b k)) (views b)

abbrev pub records_ok : List ℕ → Bool
records_ok b = all (λ k. fields_ok (record_at_of b k)) (views b)

abbrev pub vertices_ok : List ℕ → Bool
vertices_ok b = all (λ k. vertex_ok double (vertex_in_of b k)) (vertices b)

-- "The whole sheet is checked for 11, then 12, then 1 over its vertices."
unfoldable pub sheet_of : {A : Type 0} → List ℕ → Reply A → Reply A
sheet_of b rest = check (header_good b) bad_sheet (check (records_ok b) bad_record (check (vertices_ok b) bad_number rest))

-- the bytes of the longest sheet
abbrev pub sheet_bytes : ℕ
sheet_bytes = header_size + vertex_size * most_vertices + record_size * most_views

-- the numbers of the largest outline
abbrev pub outline_numbers : ℕ
outline_numbers = 3 * most_vertices

-- ---- opening a sheet: how many numbers the outline has, and how many parts the text: the outline's line, the box line, and one for each view

unfoldable pub open_of : List ℕ → Reply Opened
open_of b = sheet_of b (given (record { numbers = 3 * vertices b; parts = views b + 2 }))

-- the outline's buffer: "places past the list keep what they held", and a refusal "writes to no buffer"
unfoldable pub open_buffer : List ℕ → List Float → List Float
open_buffer b l = buffer_after (open_of b) l (outline_of b ++ drop (3 * vertices b) l)
