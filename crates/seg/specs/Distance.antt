-- `seg_distance_is_greater_than` of pline_seg.rs. "Distances may be negative; the crate takes their magnitude."
use Rattle.std.specs.Prelude.{Bool, true, false, cond, not, ◌&&◌, Float}
use Rattle.std.specs.Float.Ieee.{lt, le}
use Rattle.real.specs.Root.{abs_of}
use Rattle.real.specs.Refusal.{bad_number, bad_tolerance}
use Rattle.real.specs.Reply.{Reply, given, check}
use Rattle.plane.specs.Grade.{Grade, arith}
use Rattle.plane.specs.Vec.{vsub_of, dot_of, perp_dot_of, length_sq_of, vnear_of}
use Rattle.plane.specs.Math.{dist_sq_of}
use Rattle.plane.specs.Vertex.{pos_of, line_of}
use Rattle.plane.specs.Range.{coord_ok, tol_ok, limit_ok, point_ok, seg_ok}
use Rattle.plane.specs.declared.vector2.Vector2.{Vector2}
use Rattle.plane.specs.declared.pline_vertex.PlineVertex.{PlineVertex}
use Rattle.seg.specs.Arc.{radius_of, center_of, sweeps_over_of}

module _ (g : Grade) where
  infixl 6 ◌⊕◌ ◌⊖◌
  infixl 7 ◌⊗◌
  open arith g use {◌⊕◌, ◌⊖◌, ◌⊗◌}
  open g use {fuzz}

  unfoldable pub line_far_of : Vector2 → Vector2 → Vector2 → Float → Bool
  line_far_of start end p d2 =
      let chord = vsub_of g end start in
      let offset = vsub_of g p start in
      let projection = dot_of g offset chord in
      let chordSq = length_sq_of g chord in
      let cross = perp_dot_of g offset chord in
      cond (lt projection fuzz) (lt d2 (length_sq_of g offset))
      (cond (lt chordSq (projection ⊕ fuzz)) (lt d2 (length_sq_of g (vsub_of g p end)))
      (lt (d2 ⊗ chordSq) (cross ⊗ cross)))

  -- of a point in the sweep: beyond the outer radius, or inside the inner one if there is one
  unfoldable pub ring_far_of : Float → Float → Float → Bool
  ring_far_of radius radialSq d =
      let outer = radius ⊕ d in
      let inner = radius ⊖ d in
      cond (lt (outer ⊗ outer) radialSq) true
      (cond (le radius d) false
      (lt radialSq (inner ⊗ inner)))

  abbrev pub end_far_of : Vector2 → Vector2 → Float → Bool
  end_far_of end p d2 = lt d2 (dist_sq_of g end p)

  abbrev pub ends_far_of : Vector2 → Vector2 → Vector2 → Float → Bool
  ends_far_of start end p d2 = end_far_of start p d2 && end_far_of end p d2

  unfoldable pub arc_far_of : PlineVertex → PlineVertex → Vector2 → Vector2 → Float → Float → Bool
  arc_far_of v1 v2 center p d eps =
      let start = pos_of v1 in
      let end = pos_of v2 in
      cond (vnear_of g p center eps) (end_far_of start p (d ⊗ d))
      (cond (not (sweeps_over_of g v1 v2 center p eps)) (ends_far_of start end p (d ⊗ d))
      (ring_far_of (radius_of g v1 v2) (dist_sq_of g p center) d))

  module _ (limit : Float) where
    unfoldable pub far_of : PlineVertex → PlineVertex → Vector2 → Float → Float → Bool
    far_of v1 v2 p d eps = cond (line_of g limit v1) (line_far_of (pos_of v1) (pos_of v2) p (d ⊗ d)) (arc_far_of v1 v2 (center_of g v1 v2) p d eps)

    unfoldable pub seg_far : PlineVertex → PlineVertex → Vector2 → Float → Float → Reply Bool
    seg_far v1 v2 p distance eps =
        check (seg_ok g v1 v2) bad_number
        (check (point_ok g p) bad_number
        (check (coord_ok g distance) bad_number
        (check (tol_ok g eps && limit_ok g limit) bad_tolerance
        (given (far_of v1 v2 p (abs_of distance) eps)))))
