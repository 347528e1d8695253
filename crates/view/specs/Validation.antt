-- The crate's `validate_for_source`: "Validation answers one of seven verdicts, numbered 1 to 7 in the order of `ViewDataValidation`, each carrying the points, bulges or counts that the crate puts there."
use Rattle.std.specs.Prelude.{Bool, true, cond, not, ◌&&◌, List, [], ◌∷◌, ℕ, ◌+◌, ◌-◌, ltb, leb, eqb, length, Float}
use Rattle.real.specs.Refusal.{bad_number, bad_tolerance, bad_outline, bad_index}
use Rattle.real.specs.Reply.{Reply, refused, given, check}
use Rattle.real.specs.declared.square_root.Rooted.{Rooted}
use Rattle.real.specs.Tally.{Way, Tally, tally, plain, counting}
use Rattle.plane.specs.Grade.{Grade}
use Rattle.plane.specs.Vec.{near_of, vnear_of}
use Rattle.plane.specs.Vertex.{pos_of}
use Rattle.plane.specs.Range.{whole_outline, limit_ok}
use Rattle.plane.specs.declared.vector2.Vector2.{Vector2}
use Rattle.plane.specs.declared.pline_vertex.PlineVertex.{PlineVertex}
use Rattle.lists.specs.View.{wrapped}
use Rattle.view.specs.Outline.{vertex_value, count_of, numbers_ok}
use Rattle.view.specs.Record.{record_ok}
use Rattle.view.specs.Segment.{on_outline_by}
use Rattle.view.specs.declared.view_data.PlineViewData.{PlineViewData}
use Rattle.view.specs.declared.validation.ViewDataValidation.{ViewDataValidation}
use Rattle.view.specs.declared.validation.ViewDataValidation.TheVariants as crate
use Rattle.view.specs.declared.validation.Mark.{Mark}
use Rattle.view.specs.declared.validation.Mark.TheVariants as case

-- document 01's number, and the counts and the floats in the crate's order
pub record Verdict : Type 0 where
  pub number : ℕ
  pub counts : List ℕ
  pub floats : List Float

abbrev pub verdict : ℕ → List ℕ → List Float → Verdict
verdict n c f = record { number = n; counts = c; floats = f }

abbrev pub no_segments : Verdict
no_segments = verdict 1 [] []

abbrev pub offset_out : ℕ → ℕ → Verdict
offset_out offset count = verdict 2 (offset ∷ count ∷ []) []

abbrev pub start_off : Vector2 → Verdict
start_off p = verdict 3 [] (p.x ∷ p.y ∷ [])

abbrev pub end_off : Vector2 → Verdict
end_off p = verdict 4 [] (p.x ∷ p.y ∷ [])

abbrev pub end_on_vertex : Vector2 → PlineVertex → Verdict
end_on_vertex p v = verdict 5 [] (p.x ∷ p.y ∷ v.x ∷ v.y ∷ v.bulge ∷ [])

abbrev pub bulges_differ : Float → Float → Verdict
bulges_differ updated expected = verdict 6 [] (updated ∷ expected ∷ [])

abbrev pub valid : Verdict
valid = verdict 7 [] []

-- each case of the crate's enum, as document 01 numbers it
abbrev pub verdict_of : ViewDataValidation → Verdict
verdict_of crate.SourceHasNoSegments = no_segments
verdict_of (crate.OffsetOutOfRange offset count) = offset_out offset count
verdict_of (crate.UpdatedStartNotOnSegment p) = start_off p
verdict_of (crate.EndPointNotOnSegment p) = end_off p
verdict_of (crate.EndPointOnFinalOffsetVertex p v) = end_on_vertex p v
verdict_of (crate.UpdatedBulgeDoesNotMatch updated expected) = bulges_differ updated expected
verdict_of crate.IsValid = valid

-- a verdict, and the roots that it took
abbrev pub judged_tally : Rooted ViewDataValidation → Tally Verdict
judged_tally j = tally (verdict_of j.value) j.roots

module _ (g : Grade) where
  -- on one segment, "whether the updated bulge matches the updated start's"
  unfoldable pub bulges_match_of : PlineViewData → Bool
  bulges_match_of d = cond (eqb d.end_index_offset 0) (near_of g d.updated_end_bulge d.updated_start.bulge g.on_vertex) true

  -- verdicts 4 to 7: whether the end point is on its segment, and that segment's first vertex. "0.00001 mm whether an end sits on a vertex"
  unfoldable pub end_verdict : PlineViewData → Bool → PlineVertex → Verdict
  end_verdict d on v =
      cond (not on) (end_off d.end_point)
      (cond (vnear_of g d.end_point (pos_of v) g.on_vertex) (end_on_vertex d.end_point v)
      (cond (not (bulges_match_of d)) (bulges_differ d.updated_end_bulge d.updated_start.bulge)
      valid))

-- over a way w of taking roots
module _ (w : Way) (g : Grade) (limit : Float) where
  open w use {Step, done, ◌>>=◌}

  -- verdicts 3 to 7
  unfoldable pub placed_by : List Float → PlineViewData → Step Verdict
  placed_by s d =
      let first = pos_of d.updated_start in
      let last = wrapped d.start_index d.end_index_offset (count_of s) in
      do
        started ← on_outline_by w g limit s d.start_index first
        cond (not started) (done (start_off first)) do
          ended ← on_outline_by w g limit s last d.end_point
          done (end_verdict g d ended (vertex_value s last))

  -- verdicts 1 and 2; "After verdicts 1 and 2 comes refusal 4."
  unfoldable pub counts_by : List Float → PlineViewData → Reply (Step Verdict)
  counts_by s d =
      cond (ltb (count_of s) 2) (given (done no_segments))
      (cond (ltb (count_of s) d.end_index_offset) (given (done (offset_out d.end_index_offset (count_of s))))
      (check (ltb d.start_index (count_of s)) bad_index
      (given (placed_by s d))))

  -- 3 (but "under two vertices, for any view call but validation"), then 1, then "2 for a limit out of range"
  unfoldable pub validate_by : List Float → PlineViewData → Reply (Step Verdict)
  validate_by s d =
      check (whole_outline (length s)) bad_outline
      (check (numbers_ok g s && record_ok g d) bad_number
      (check (limit_ok g limit) bad_tolerance
      (counts_by s d)))

module _ (g : Grade) (limit : Float) where
  -- the verdict alone
  abbrev pub validate_of : List Float → PlineViewData → Reply Verdict
  validate_of = validate_by plain g limit

  -- the verdict, and "how many square roots it took [...], equal to the number its definition takes along that path"
  abbrev pub validate_counted : List Float → PlineViewData → Reply (Tally Verdict)
  validate_counted = validate_by counting g limit

-- ---- the mark

pub data MarkCase : Type 0 where
  cut hold : MarkCase

abbrev pub mark_case : Mark → MarkCase
mark_case case.Cut = cut
mark_case case.Hold = hold

-- "On an open outline [...] when start index plus offset reaches the vertex count less 1 or more": the sum is not wrapped
unfoldable pub across_gap : Bool → List Float → PlineViewData → Bool
across_gap closed s d = not closed && leb (count_of s - 1) (d.start_index + d.end_index_offset)

-- "a view is cut exactly when its verdict is 7 [...]; otherwise it is hold", and across the gap it "is hold also". "The verdict stays the crate's."
unfoldable pub mark_of : Bool → List Float → PlineViewData → Verdict → MarkCase
mark_of closed s d v = cond (eqb v.number 7) (cond (across_gap closed s d) hold cut) hold

-- the mark of a verdict that is not refused
abbrev pub mark_answer : Bool → List Float → PlineViewData → Reply Verdict → Reply MarkCase
mark_answer closed s d (refused n) = refused n
mark_answer closed s d (given v) = given (mark_of closed s d v)
