-- The box of pline_seg.rs: `line_seg_bounding_box`, `arc_seg_bounding_box`, `seg_bounding_box`.
use Rattle.std.specs.Prelude.{Bool, cond, not, ◌&&◌, ◌||◌, Float}
use Rattle.std.specs.Float.Ieee.{lt}
use Rattle.real.specs.Refusal.{bad_number, bad_tolerance}
use Rattle.real.specs.Reply.{Reply, given, check}
use Rattle.plane.specs.Grade.{Grade, arith}
use Rattle.plane.specs.Vec.{vadd_of, vsub_of, scale_of, perp_of, vnear_of}
use Rattle.plane.specs.Math.{min_max_of}
use Rattle.plane.specs.Vertex.{pos_of, line_of}
use Rattle.plane.specs.Range.{limit_ok, seg_ok}
use Rattle.plane.specs.declared.vector2.Vector2.{Vector2}
use Rattle.plane.specs.declared.pline_vertex.PlineVertex.{PlineVertex}
use Rattle.seg.specs.Arc.{chord_of, circle_of}
use Rattle.seg.specs.declared.arc.Circle.{Circle}
use Rattle.seg.specs.declared.bounds.Bounds.{Bounds}
use Rattle.seg.specs.declared.bounds.Crossings.{Crossings}

-- least x, least y, greatest x, greatest y
abbrev pub bounds : Float → Float → Float → Float → Bounds
bounds a b c d = record { min_x = a; min_y = b; max_x = c; max_y = d }

abbrev pub line_box_of : Vector2 → Vector2 → Bounds
line_box_of start end =
    let x = min_max_of start.x end.x in
    let y = min_max_of start.y end.y in
    bounds x.min y.min x.max y.max

abbrev pub any_of : Crossings → Bool
any_of c = c.right || (c.left || (c.top || c.bottom))

module _ (g : Grade) where
  infixl 6 ◌⊕◌ ◌⊖◌
  infixl 7 ◌⊗◌
  open arith g use {◌⊕◌, ◌⊖◌, ◌⊗◌}
  open g use {zero, one, two, fuzz}

  -- "The true box is extended only by strict sign changes."
  abbrev pub rises : Float → Float → Bool
  rises a b = lt a zero && lt zero b

  abbrev pub falls : Float → Float → Bool
  falls a b = lt zero a && lt b zero

  -- the start and end radius vectors, times 4 * bulge
  unfoldable pub start_radius : PlineVertex → PlineVertex → Vector2
  start_radius v1 v2 =
      let b = v1.bulge in
      let chord = chord_of g v1 v2 in
      vsub_of g (scale_of g (perp_of chord) (b ⊗ b ⊖ one)) (scale_of g chord (two ⊗ b))

  unfoldable pub end_radius : PlineVertex → PlineVertex → Vector2
  end_radius v1 v2 =
      let b = v1.bulge in
      let chord = chord_of g v1 v2 in
      vadd_of g (scale_of g (perp_of chord) (b ⊗ b ⊖ one)) (scale_of g chord (two ⊗ b))

  abbrev pub crossings_of : Vector2 → Vector2 → Crossings
  crossings_of s e = record { right = rises s.y e.y; left = falls s.y e.y; top = falls s.x e.x; bottom = rises s.x e.x }

  abbrev pub cross_box_of : Bounds → Circle → Crossings → Bounds
  cross_box_of ends circle c =
      let center = circle.center in
      let radius = circle.radius in
      bounds (cond c.left (center.x ⊖ radius) ends.min_x) (cond c.bottom (center.y ⊖ radius) ends.min_y)
      (cond c.right (center.x ⊕ radius) ends.max_x) (cond c.top (center.y ⊕ radius) ends.max_y)

  unfoldable pub arc_box_by : PlineVertex → PlineVertex → Bounds → Crossings → Bounds
  arc_box_by v1 v2 ends c =
      cond (vnear_of g (pos_of v1) (pos_of v2) fuzz) (bounds v1.x v1.y v1.x v1.y)
      (cond (not (any_of c)) ends
      (cross_box_of ends (circle_of g v1 v2) c))

  unfoldable pub arc_box_of : PlineVertex → PlineVertex → Bounds
  arc_box_of v1 v2 = arc_box_by v1 v2 (line_box_of (pos_of v1) (pos_of v2)) (crossings_of (start_radius v1 v2) (end_radius v1 v2))

  module _ (limit : Float) where
    unfoldable pub box_of : PlineVertex → PlineVertex → Bounds
    box_of v1 v2 = cond (line_of g limit v1) (line_box_of (pos_of v1) (pos_of v2)) (arc_box_of v1 v2)

    unfoldable pub seg_box : PlineVertex → PlineVertex → Reply Bounds
    seg_box v1 v2 =
        check (seg_ok g v1 v2) bad_number
        (check (limit_ok g limit) bad_tolerance
        (given (box_of v1 v2)))
