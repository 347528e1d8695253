-- "The sign is not promised, because a point off the arc can turn it": (0,0,0.5) to (1,0), split at (-1,1), and rows that begin so, at f64.
use Rattle.std.specs.Prelude.{◌≡◌, [], ◌∷◌, Float}
use Rattle.real.specs.Refusal.{bad_number}
use Rattle.real.specs.Reply.{refused, given}
use Rattle.plane.specs.Grade.{double}
use Rattle.plane.specs.Vertex.{vertex_at_of, pos_of}
use Rattle.plane.specs.declared.vector2.Vector2.{Vector2}
use Rattle.seg.specs.Split.{split_at_of}
use Rattle.seg.specs.SplitRow.{Segment, Part, first, second, SplitStep, split_by, split_row}
use Rattle.seg.specs.Cases.{f64, half, minus_one, vec}
open double use {zero, one, line, on_vertex}

abbrev pub arc : Segment
arc = record { start = vertex_at_of zero zero half; end = vertex_at_of one zero zero }

-- farther from both ends than they are from each other
abbrev pub off : Vector2
off = vec minus_one one

-- the f64 nearest to -1/3
abbrev pub minus_third : Float
minus_third = f64 0xbfd5_5555_5555_5555

-- 1,000,001
abbrev pub beyond : Float
beyond = f64 0x412e_8482_0000_0000

abbrev pub split_step : Vector2 → Part → SplitStep
split_step p part = record { point = p; tolerance = on_vertex; limit = line; part = part }

pub record Turned : Type 0 where
  -- the first result is a half circle, and the second bows to the other side
  pub results : split_by double (split_step off first) arc ≡ given (split_at_of (pos_of arc.start) one off minus_third)
  -- a row goes on with either: "the first towards the split point, the second towards the old end"
  pub first_on : split_row double (split_step off first ∷ []) arc ≡ given (record { start = vertex_at_of zero zero one; end = vertex_at_of minus_one one minus_third })
  pub second_on : split_row double (split_step off second ∷ []) arc ≡ given (record { start = vertex_at_of minus_one one minus_third; end = arc.end })
  -- a point out of range is refused, and nothing goes on
  pub stops : split_row double (split_step off second ∷ split_step (vec zero beyond) first ∷ split_step off first ∷ []) arc ≡ refused bad_number
