-- The crate's `create` and `from_new_start` on closed outlines, as chains of refusals in document 01's order and then the record.
use Rattle.std.specs.Prelude.{Bool, false, cond, ◌&&◌, List, ℕ, ◌-◌, ltb, leb, eqb, Float}
use Rattle.real.specs.Refusal.{bad_number, bad_tolerance, bad_outline, bad_index, bad_offset, not_closed}
use Rattle.real.specs.Reply.{Reply, given, check}
use Rattle.plane.specs.Grade.{Grade}
use Rattle.plane.specs.Vec.{vnear_of}
use Rattle.plane.specs.Vertex.{pos_of}
use Rattle.plane.specs.Range.{tol_ok, limit_ok, point_ok, vertex_ok}
use Rattle.plane.specs.declared.vector2.Vector2.{Vector2}
use Rattle.plane.specs.declared.pline_vertex.PlineVertex.{PlineVertex}
use Rattle.seg.specs.declared.split.SplitResult.{SplitResult}
use Rattle.lists.specs.View.{wrapped}
use Rattle.view.specs.Outline.{vertex_value, count_of, vertex_past_of, viewable, numbers_ok}
use Rattle.view.specs.Segment.{split_segment_of}
use Rattle.view.specs.declared.view_data.PlineViewData.{PlineViewData}
use Rattle.view.specs.declared.ending.Ending.{Ending}

-- the number of the next vertex, and the vertex before
abbrev pub next_of : List Float → ℕ → ℕ
next_of s k = wrapped k 1 (count_of s)

abbrev pub vertex_before : List Float → ℕ → PlineVertex
vertex_before s k = vertex_past_of s k (count_of s - 1)

-- an offset and the bulge of the view's last segment
abbrev pub ending : ℕ → Float → Ending
ending offset b = record { offset = offset; bulge = b }

-- a forward record with no cut number: "`create` and `from_new_start` give 0"
abbrev pub forward_data_of : ℕ → PlineVertex → Vector2 → Ending → PlineViewData
forward_data_of start first p e =
    record {
      start_index = start;
      end_index_offset = e.offset;
      updated_start = first;
      updated_end_bulge = e.bulge;
      end_point = p;
      inverted_direction = false;
      cut_number = 0;
    }

-- `create`, "intersect lies on top of vertex at start of segment"
unfoldable pub end_on_top_of : List Float → ℕ → Float → ℕ → Ending
end_on_top_of s at b traverse = ending (traverse - 1) (cond (eqb (traverse - 1) 0) b (vertex_before s at).bulge)

-- the record, or 5 for "a resulting offset above the vertex count"
unfoldable pub ended_at_of : List Float → ℕ → Vector2 → PlineVertex → Ending → Reply PlineViewData
ended_at_of s start p first e = check (leb e.offset (count_of s)) bad_offset (given (forward_data_of start first p e))

module _ (g : Grade) where
  -- `from_new_start`, "catch where start point is at very end of start index segment (and adjust forward)"
  unfoldable pub moved_on : List Float → Vector2 → ℕ → Float → ℕ
  moved_on s p k eps = cond (vnear_of g (pos_of (vertex_value s (next_of s k))) p eps) (next_of s k) k

  -- "start point on top of vertex, adjust index offset and do not use split bulge"
  unfoldable pub round_ending_of : List Float → Vector2 → ℕ → Float → SplitResult → Ending
  round_ending_of s p k eps split =
      cond (vnear_of g (pos_of (vertex_value s k)) p eps) (ending (count_of s - 1) (vertex_before s k).bulge)
      (ending (count_of s) split.updated_start.bulge)

  module _ (limit : Float) (s : List Float) where
    -- ---- create

    -- "trim bulge to intersect position"
    unfoldable pub end_on_segment_of : ℕ → Vector2 → ℕ → Float → Ending
    end_on_segment_of at p traverse eps = ending traverse (split_segment_of g limit s at p eps).updated_start.bulge

    unfoldable pub ending_of : Vector2 → ℕ → Float → ℕ → Float → Ending
    ending_of p at b traverse eps = cond (vnear_of g p (pos_of (vertex_value s at)) eps) (end_on_top_of s at b traverse) (end_on_segment_of at p traverse eps)

    -- 3, 1, 2; then "a traverse count of 0 is refused 5, then a bad index 4, then a resulting offset above the vertex count 5"
    unfoldable pub create_of : ℕ → Vector2 → ℕ → PlineVertex → ℕ → Float → Reply PlineViewData
    create_of start p at first traverse eps =
        check (viewable s) bad_outline
        (check (numbers_ok g s && (point_ok g p && vertex_ok g first)) bad_number
        (check (tol_ok g eps && limit_ok g limit) bad_tolerance
        (check (ltb 0 traverse) bad_offset
        (check (ltb start (count_of s) && ltb at (count_of s)) bad_index
        (ended_at_of s start p first (ending_of p at first.bulge traverse eps))))))

    -- ---- from_new_start

    -- the whole outline from a point on segment k
    unfoldable pub round_from_of : Vector2 → ℕ → Float → PlineViewData
    round_from_of p k eps =
        let split = split_segment_of g limit s k p eps in
        forward_data_of k split.split_vertex p (round_ending_of s p k eps split)

    -- 3, 1, 2, 10, 4
    unfoldable pub new_start_of : Bool → Vector2 → ℕ → Float → Reply PlineViewData
    new_start_of closed p start eps =
        check (viewable s) bad_outline
        (check (numbers_ok g s && point_ok g p) bad_number
        (check (tol_ok g eps && limit_ok g limit) bad_tolerance
        (check closed not_closed
        (check (ltb start (count_of s)) bad_index
        (given (round_from_of p (moved_on s p start eps) eps))))))
