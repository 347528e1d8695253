-- The values that an answer is written as.
use Rattle.std.specs.Prelude.{Bool, cond, List, [], ◌∷◌, ℕ, length, get_or, Float}
use Rattle.real.specs.Reply.{Reply, given, and_then}
use Rattle.real.specs.Tally.{Tally}
use Rattle.plane.specs.Grade.{double}
use Rattle.plane.specs.declared.vector2.Vector2.{Vector2}
use Rattle.plane.specs.declared.pline_vertex.PlineVertex.{PlineVertex}
use Rattle.seg.specs.declared.arc.Circle.{Circle}
use Rattle.seg.specs.declared.bounds.Bounds.{Bounds}
use Rattle.seg.specs.declared.split.SplitResult.{SplitResult}
use Rattle.lists.specs.Plain.{flat}
use Rattle.view.specs.Outline.{count_of}
use Rattle.view.specs.Record.{listed}
use Rattle.view.specs.Answers.{vertex_count_of}
use Rattle.view.specs.Validation.{Verdict, MarkCase, cut, hold}
use Rattle.view.specs.declared.view_data.PlineViewData.{PlineViewData}
use Rattle.record.specs.Record.{record_to, record_buffer}
use Rattle.dxf.specs.Outline.{Drawn}
use Rattle.lent.specs.Lent.{Left, Both, both}

abbrev pub point_numbers : Vector2 → List Float
point_numbers p = p.x ∷ p.y ∷ []

abbrev pub vertex_numbers : PlineVertex → List Float
vertex_numbers v = v.x ∷ v.y ∷ v.bulge ∷ []

abbrev pub circle_numbers : Circle → List Float
circle_numbers c = c.radius ∷ c.center.x ∷ c.center.y ∷ []

abbrev pub box_numbers : Bounds → List Float
box_numbers b = b.min_x ∷ b.min_y ∷ b.max_x ∷ b.max_y ∷ []

abbrev pub split_numbers : SplitResult → List Float
split_numbers s =
    let v1 = s.updated_start in
    let v2 = s.split_vertex in
    v1.x ∷ v1.y ∷ v1.bulge ∷ v2.x ∷ v2.y ∷ v2.bulge ∷ []

abbrev pub flag_byte : Bool → List ℕ
flag_byte b = cond b 1 0 ∷ []

abbrev pub mark_byte : MarkCase → List ℕ
mark_byte cut = 1 ∷ []
mark_byte hold = 0 ∷ []

-- the verdict's number and counts, unused ones 0, and the roots that it took
abbrev pub verdict_words_of : Tally Verdict → List ℕ
verdict_words_of t = let v = t.value in v.number ∷ get_or v.counts 0 0 ∷ get_or v.counts 1 0 ∷ t.roots ∷ []

-- its floats, unused ones +0
abbrev pub verdict_numbers_of : Verdict → List Float
verdict_numbers_of v =
    let at : ℕ → Float = λ k. get_or v.floats k double.zero in
    at 0 ∷ at 1 ∷ at 2 ∷ at 3 ∷ at 4 ∷ []

abbrev pub verdict_values : Tally Verdict → Both
verdict_values t = both (verdict_words_of t) (verdict_numbers_of t.value)

-- a record's bytes, as its writer leaves them: 5 and 4 for numbers that are no u32, then 8
unfoldable pub record_lent : PlineViewData → List ℕ → Reply (List ℕ)
record_lent d before = and_then (record_to d (length before)) (λ n. given (record_buffer d before))

abbrev pub RecordAnswered : Reply PlineViewData → List ℕ → ℕ → List ℕ → Type 0
RecordAnswered reply before = Left reply (λ d. record_lent d before) before

-- the list and its count, refused as the count is
unfoldable pub list_reply : List Float → PlineViewData → Reply Both
list_reply s d = and_then (vertex_count_of double s d) (λ n. given (both (n ∷ []) (flat (listed double s d))))

-- a drawing's outline: its vertex count and 1 for closed or 0, and its numbers in threes
abbrev pub drawn_values : Drawn → Both
drawn_values o = both (count_of o.numbers ∷ cond o.closed 1 0 ∷ []) o.numbers
