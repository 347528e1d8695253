-- Open outlines: an outline of n vertices that is open has the segments 0 to n - 2, and none from its last vertex back to its first. What the mark makes of that: proofs/OpenOutline.antt proves `OpenOutline` of every outline and every record.
use Rattle.std.specs.Prelude.{◌≡◌, Bool, true, false, List, ℕ, ◌+◌, ◌<◌, ◌≤◌, Float}
use Rattle.std.specs.Float.Ieee.{neg}
use Rattle.real.specs.Reply.{Reply, given}
use Rattle.plane.specs.Grade.{Grade}
use Rattle.plane.specs.Vertex.{pos_of}
use Rattle.lists.specs.Plain.{Step}
use Rattle.lists.specs.Along.{along, RunsAlong}
use Rattle.view.specs.Outline.{count_of, src_of}
use Rattle.view.specs.Record.{view_of, record_vertex_of, turned_of}
use Rattle.view.specs.Segment.{on_outline}
use Rattle.view.specs.Validation.{MarkCase, cut, valid, validate_of, across_gap, mark_answer}
use Rattle.view.specs.Rows.{row}
use Rattle.view.specs.declared.view_data.PlineViewData.{PlineViewData}

module _ (g : Grade) (limit : Float) (s : List Float) where
  -- what `mark` answers
  abbrev pub marked : Bool → PlineViewData → Reply MarkCase
  marked closed d = mark_answer closed s d (validate_of g limit s d)

  module _ (d : PlineViewData) where
    -- the source segment that the view's list runs along from position k to position k + 1
    abbrev pub segment_at : ℕ → ℕ
    segment_at = along (count_of s) (view_of d)

    -- each of them is one of the segments 0 to n - 2
    abbrev pub BeforeLast : Type 0
    BeforeLast = (k : ℕ) → k ≤ d.end_index_offset → segment_at k + 1 < count_of s

    -- the view uses no other segments of the outline: its list runs along these, and begins and ends on the first and on the last of them
    pub record UsesOpen : Type 0 where
      pub runs : RunsAlong neg g.zero (src_of s) (count_of s) (view_of d)
      pub before : BeforeLast
      pub first : on_outline g limit s (segment_at 0) (pos_of (record_vertex_of g s d 0)) ≡ true
      pub last : on_outline g limit s (segment_at d.end_index_offset) (pos_of (record_vertex_of g s d (d.end_index_offset + 1))) ≡ true

    pub record OpenOutline : Type 0 where
      -- a view that is cut on an open outline uses only segments that are there
      pub uses : marked false d ≡ given cut → UsesOpen
      -- and none that does is held for the gap
      pub only : validate_of g limit s d ≡ given valid → BeforeLast → marked false d ≡ given cut
      -- "Both directions follow the same rule."
      pub alike : (closed : Bool) → marked closed (turned_of d) ≡ marked closed d
      -- no row of reversals and trims takes a view across the gap
      pub rows : (closed : Bool) (ts : List Step) → across_gap closed s d ≡ false → across_gap closed s (row g s ts d) ≡ false
