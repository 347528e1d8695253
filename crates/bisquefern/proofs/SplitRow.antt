-- Rows of splits through the C face: six numbers are read as the segment that they are, so a row over numbers is the row over segments.
use mathlib.Core.Path.{◌≡◌, refl, sym}
use mathlib.Core.List.{List, [], ◌∷◌}
use Rattle.real.specs.Reply.{given, and_then}
use Rattle.real.proofs.Replies.{joined}
use Rattle.plane.specs.Grade.{double}
use Rattle.seg.specs.SplitRow.{Segment, Part, first, second, SplitStep, part_of, split_by, split_row}
use Rattle.seg.specs.declared.split.SplitResult.{SplitResult}
use Rattle.lent.specs.Segment.{segment_from}
use Rattle.lent.specs.Values.{split_numbers}
use Rattle.lent.proofs.Laws.{fills}
use Rattle.bisquefern.specs.SplitRow.{segment_numbers, next_numbers, numbers_row, NumbersRow}

-- what is passed on is the part's numbers
next_is : (part : Part) (s : Segment) (r : SplitResult) → next_numbers part (segment_numbers s) (split_numbers r) ≡ segment_numbers (part_of part s.end r)
next_is first s r = refl
next_is second s r = refl

rows : (cs : List SplitStep) (s : Segment) → numbers_row cs (segment_numbers s) ≡ and_then (split_row double cs s) (λ t. given (segment_numbers t))
unfolding numbers_row split_row and_then segment_from
rows [] s = refl
rows (c ∷ cs) s = joined (split_by double c s) _ _ _ (λ r. rw (next_is c.part s r) (rows cs (part_of c.part s.end r)))

pub numbers_row_law : (s : Segment) → NumbersRow s
numbers_row_law s = record { rows = λ cs. rows cs s; written = λ r before after code h w. fills split_numbers (sym h) w }
