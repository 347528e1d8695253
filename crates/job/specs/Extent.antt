-- The box of an outline: "least x, y, greatest x, y over all segments (closing one only if closed; a later box replaces an edge only when strictly
-- beyond it)".
use Rattle.std.specs.Prelude.{ℕ, zero, suc, ◌-◌, Bool, cond, Float}
use Rattle.std.specs.Float.Ieee.{lt}
use Rattle.plane.specs.Grade.{double}
use Rattle.plane.specs.declared.pline_vertex.PlineVertex.{PlineVertex}
use Rattle.seg.specs.Bounds.{bounds, box_of}
use Rattle.seg.specs.declared.bounds.Bounds.{Bounds}
use Rattle.lists.specs.View.{wrapped}

abbrev pub lesser : Float → Float → Float
lesser edge other = cond (lt other edge) other edge

abbrev pub greater : Float → Float → Float
greater edge other = cond (lt edge other) other edge

abbrev pub wider : Bounds → Bounds → Bounds
wider a b =
    bounds (lesser a.min_x b.min_x) (lesser a.min_y b.min_y) (greater a.max_x b.max_x) (greater a.max_y b.max_y)

-- a segment's box, "the true box"
abbrev pub segment_box_of : PlineVertex → PlineVertex → Bounds
segment_box_of = box_of double double.line

-- of n vertices `src`: the box of the segment that starts at vertex k, and of the segments 0 to k in their order
module _ (src : ℕ → PlineVertex) (n : ℕ) where
  abbrev pub box_at_of : ℕ → Bounds
  box_at_of k = segment_box_of (src k) (src (wrapped k 1 n))

  unfoldable pub box_to : ℕ → Bounds
  box_to zero = box_at_of zero
  box_to (suc k) = wider (box_to k) (box_at_of (suc k))

-- the last segment of two vertices or more: the closing one only if closed
abbrev pub last_segment_of : Bool → ℕ → ℕ
last_segment_of closed n = cond closed (n - 1) (n - 2)
