-- A segment of an outline: whether a point lies on it, the closure `point_is_on_segment` of the crate's `validate_for_source`, and its split.
use Rattle.std.specs.Prelude.{Bool, true, cond, ◌||◌, List, ℕ, Float}
use Rattle.real.specs.Tally.{Way, plain}
use Rattle.plane.specs.Grade.{Grade}
use Rattle.plane.specs.Vec.{vnear_of}
use Rattle.plane.specs.Vertex.{pos_of}
use Rattle.plane.specs.declared.vector2.Vector2.{Vector2}
use Rattle.plane.specs.declared.pline_vertex.PlineVertex.{PlineVertex}
use Rattle.seg.specs.Closest.{closest_by}
use Rattle.seg.specs.Split.{split_of}
use Rattle.seg.specs.declared.split.SplitResult.{SplitResult}
use Rattle.view.specs.Outline.{vertex_value, vertex_past_of}

-- "0.001 mm says whether a point is on a segment": at an end of it, or at its closest point
abbrev pub near_end : Grade → PlineVertex → PlineVertex → Vector2 → Bool
near_end g v1 v2 p = vnear_of g p (pos_of v1) g.on_segment || vnear_of g p (pos_of v2) g.on_segment

-- over a way w of taking roots
module _ (w : Way) (g : Grade) (limit : Float) where
  open w use {Step, done, ◌>>=◌}

  unfoldable pub near_closest_by : PlineVertex → PlineVertex → Vector2 → Step Bool
  near_closest_by v1 v2 p = do
    closest ← closest_by w g limit v1 v2 p g.on_vertex
    done (vnear_of g closest p g.on_segment)

  unfoldable pub on_segment_by : PlineVertex → PlineVertex → Vector2 → Step Bool
  on_segment_by v1 v2 p = cond (near_end g v1 v2 p) (done true) (near_closest_by v1 v2 p)

  -- on segment k, from vertex k to the next one, wrapping
  unfoldable pub on_outline_by : List Float → ℕ → Vector2 → Step Bool
  on_outline_by s k p = on_segment_by (vertex_value s k) (vertex_past_of s k 1) p

module _ (g : Grade) (limit : Float) where
  -- the test alone
  abbrev pub on_outline : List Float → ℕ → Vector2 → Bool
  on_outline = on_outline_by plain g limit

  -- that segment, split at a point
  abbrev pub split_segment_of : List Float → ℕ → Vector2 → Float → SplitResult
  split_segment_of s k p eps = split_of g limit (vertex_value s k) (vertex_past_of s k 1) p eps
