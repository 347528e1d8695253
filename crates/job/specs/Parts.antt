-- All of a sheet's text, and the parts in which it is made.
use Rattle.std.specs.Prelude.{ℕ, ◌+◌, ◌-◌, cond, ◌&&◌, List, [], ◌++◌, ltb, eqb, Float}
use Rattle.real.specs.Reply.{Reply, refused, given}
use Rattle.job.specs.Header.{header_value, header_good, closed, retired}
use Rattle.record.specs.Record.{record_value}
use Rattle.job.specs.Outline.{vertex_in_of}
use Rattle.job.specs.Extent.{box_to, last_segment_of}
use Rattle.job.specs.Sheet.{views, outline_of, record_at_of, records_of, vertices_ok, sheet_of}
use Rattle.job.specs.Rows.{numbered}
use Rattle.job.specs.Lines.{refused_line, outline_line, box_words, no_box_words, box_end}
use Rattle.job.specs.Views.{view_text, view_buffer}

-- ---- the whole

-- "Under two vertices: `box none`."
abbrev pub box_head : List ℕ → List ℕ
box_head b =
    let h = header_value b in
    cond (ltb h.vertices 2) no_box_words (box_words (box_to (vertex_in_of b) h.vertices (last_segment_of (closed h) h.vertices)))

-- Of a sheet with flag bit 1 it "prints the true box and ends that line with the word `retired`, also after `box none`."
unfoldable pub box_line : List ℕ → List ℕ
box_line b = box_head b ++ box_end (retired (header_value b))

unfoldable pub whole_text : List ℕ → List ℕ
whole_text b =
    let h = header_value b in
    outline_line h.vertices h.views (closed h) ++ box_line b ++ numbered (view_text (closed h) (outline_of b)) 0 (records_of b)

-- "a refused sheet only `refused N`"
abbrev pub answer_text : Reply (List ℕ) → List ℕ
answer_text (refused n) = refused_line n
answer_text (given t) = t

-- "All of its output"
unfoldable pub sheet_text : List ℕ → List ℕ
sheet_text b = answer_text (sheet_of b (given (whole_text b)))

-- ---- the parts of a sheet b, over any outline s; past the last part, and without a good header, there is none

unfoldable pub box_part : List ℕ → List ℕ
box_part b = cond (vertices_ok b) (box_line b) []

unfoldable pub front_part : List ℕ → ℕ → List ℕ
front_part b k =
    let h = header_value b in
    cond (eqb k 0) (outline_line h.vertices h.views (closed h)) (box_part b)

unfoldable pub view_part : List ℕ → List Float → ℕ → List ℕ
view_part b s k = view_text (closed (header_value b)) s k (record_value (record_at_of b k))

unfoldable pub part_text : List ℕ → List Float → ℕ → List ℕ
part_text b s k = cond (header_good b && ltb k (views b + 2)) (cond (ltb k 2) (front_part b k) (view_part b s (k - 2))) []

-- the buffer in which a cut view is listed
unfoldable pub view_buffer_of : List ℕ → List Float → ℕ → List Float → List Float
view_buffer_of b s k l = view_buffer (closed (header_value b)) s (record_value (record_at_of b k)) l

unfoldable pub part_buffer : List ℕ → List Float → ℕ → List Float → List Float
part_buffer b s k l = cond (header_good b && ltb k (views b + 2)) (cond (ltb k 2) l (view_buffer_of b s (k - 2) l)) l
