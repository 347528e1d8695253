-- Rows of splits, each step by what `seg_split_at_point` answers: "start from any segment in 01's ranges, split at any point with any tolerance in range, go on with either result (the first towards the split point, the second towards the old end), and so on as long as one likes; every bulge met has magnitude at most 1", whatever line limit each step has. proofs/SplitRow.antt proves `HalfCircle` of every segment in range.
use Rattle.std.specs.Prelude.{◌≡◌, Bool, true, ◌&&◌, List, [], ◌∷◌, Float}
use Rattle.real.specs.Refusal.{bad_number, bad_tolerance}
use Rattle.real.specs.Reply.{Reply, given, check, and_then}
use Rattle.plane.specs.Grade.{Grade}
use Rattle.plane.specs.Range.{bulge_ok, tol_ok, limit_ok, point_ok, seg_ok}
use Rattle.plane.specs.declared.vector2.Vector2.{Vector2}
use Rattle.plane.specs.declared.pline_vertex.PlineVertex.{PlineVertex}
use Rattle.seg.specs.Split.{split_of, seg_split}
use Rattle.seg.specs.declared.split.SplitResult.{SplitResult}

pub record Segment : Type 0 where
  pub start : PlineVertex
  pub end : PlineVertex

-- "either result"
pub data Part : Type 0 where
  first : Part
  second : Part

-- a step of a row: a point, a tolerance, a line limit, and the result to go on with
pub record SplitStep : Type 0 where
  pub point : Vector2
  pub tolerance : Float
  pub limit : Float
  pub part : Part

-- "the first towards the split point, the second towards the old end"
abbrev pub part_of : Part → PlineVertex → SplitResult → Segment
part_of first end r = record { start = r.updated_start; end = r.split_vertex }
part_of second end r = record { start = r.split_vertex; end = end }

module _ (g : Grade) where
  -- all that a row passes in: "any point with any tolerance in range", and any limit in range
  unfoldable pub passed_ok : List SplitStep → Bool
  passed_ok [] = true
  passed_ok (c ∷ cs) = point_ok g c.point && (tol_ok g c.tolerance && (limit_ok g c.limit && passed_ok cs))

  -- what `seg_split_at_point` answers to a step
  abbrev pub split_by : SplitStep → Segment → Reply SplitResult
  split_by c s = seg_split g c.limit s.start s.end c.point c.tolerance

  -- the segment at the end of a row; where the library refuses a step nothing goes on, and the row has its number
  unfoldable pub split_row : List SplitStep → Segment → Reply Segment
  split_row [] s = given s
  split_row (c ∷ cs) s = and_then (split_by c s) (λ r. split_row cs (part_of c.part s.end r))

  -- what is said of each segment t on the way
  pub record SplitsOn (t : Segment) : Type 0 where
    -- "every bulge met has magnitude at most 1": its own, and those of both results, whichever goes on
    pub own : bulge_ok g t.start.bulge ≡ true
    pub results : (c : SplitStep) (r : SplitResult) → split_by c t ≡ given r → (bulge_ok g r.updated_start.bulge ≡ true) × (bulge_ok g r.split_vertex.bulge ≡ true)
    -- its positions are in range too, so no call refuses its numbers
    pub in_range : seg_ok g t.start t.end ≡ true
    -- and the next split is refused only for what is newly passed in: of `seg_split` the test of the segment is gone
    pub next : (c : SplitStep) → split_by c t ≡
        check (point_ok g c.point) bad_number
        (check (tol_ok g c.tolerance && limit_ok g c.limit) bad_tolerance
        (given (split_of g c.limit t.start t.end c.point c.tolerance)))

  -- a row that is given to its end
  pub record Reaches (cs : List SplitStep) (s : Segment) : Type 0 where
    pub segment : Segment
    pub is : split_row cs s ≡ given segment

  pub record HalfCircle (s : Segment) : Type 0 where
    -- "and so on as long as one likes"
    pub rows : (cs : List SplitStep) (t : Segment) → split_row cs s ≡ given t → SplitsOn t
    -- no row is refused whose points, tolerances and limits are in range
    pub goes_on : (cs : List SplitStep) → passed_ok cs ≡ true → Reaches cs s
