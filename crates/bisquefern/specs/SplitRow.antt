-- Rows of splits through the C face: a segment is six numbers, and what one call wrote is what the next one takes.
use Rattle.std.specs.Prelude.{◌≡◌, List, [], ◌∷◌, ◌++◌, ℕ, length, drop, Float}
use Rattle.real.specs.Reply.{Reply, given, and_then}
use Rattle.plane.specs.Grade.{double}
use Rattle.seg.specs.Split.{seg_split}
use Rattle.seg.specs.SplitRow.{Segment, Part, first, second, SplitStep, split_row}
use Rattle.seg.specs.declared.split.SplitResult.{SplitResult}
use Rattle.lent.specs.Lent.{Answered}
use Rattle.lent.specs.Values.{vertex_numbers, split_numbers}
use Rattle.bisquefern.specs.Calls.{of_segment}

abbrev pub segment_numbers : Segment → List Float
segment_numbers s = vertex_numbers s.start ++ vertex_numbers s.end

-- the reply that `bf_seg_split_at_point` promises
abbrev pub numbers_split : SplitStep → List Float → Reply SplitResult
numbers_split c s = of_segment s (λ v1 v2. seg_split double c.limit v1 v2 c.point c.tolerance)

-- the next call's six numbers: those that were written, or the split vertex and then the old end
abbrev pub next_numbers : Part → List Float → List Float → List Float
next_numbers first s out = out
next_numbers second s out = drop 3 out ++ drop 3 s

-- the six numbers at the end of a row; where a call is refused nothing goes on
unfoldable pub numbers_row : List SplitStep → List Float → Reply (List Float)
numbers_row [] s = given s
numbers_row (c ∷ cs) s = and_then (numbers_split c s) (λ r. numbers_row cs (next_numbers c.part s (split_numbers r)))

pub record NumbersRow (s : Segment) : Type 0 where
  -- a row over numbers is the row over segments, of which `HalfCircle` says the rest
  pub rows : (cs : List SplitStep) → numbers_row cs (segment_numbers s) ≡ and_then (split_row double cs s) (λ t. given (segment_numbers t))
  -- and a buffer of six numbers holds, after a call that answers, just those that `next_numbers` takes
  pub written : (r : SplitResult) (before after : List Float) (code : ℕ) → length before ≡ 6 → Answered split_numbers (given r) before code after → after ≡ split_numbers r
