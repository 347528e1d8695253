-- `seg_tangent_vector` of pline_seg.rs.
use Rattle.std.specs.Prelude.{cond, Float}
use Rattle.real.specs.Root.{abs_of}
use Rattle.real.specs.Refusal.{bad_number, bad_tolerance}
use Rattle.real.specs.Reply.{Reply, given, check}
use Rattle.plane.specs.Grade.{Grade, arith}
use Rattle.plane.specs.Vec.{vadd_of, vsub_of, scale_of, perp_of}
use Rattle.plane.specs.Vertex.{pos_of, line_of}
use Rattle.plane.specs.Range.{limit_ok, point_ok, seg_ok}
use Rattle.plane.specs.declared.vector2.Vector2.{Vector2}
use Rattle.plane.specs.declared.pline_vertex.PlineVertex.{PlineVertex}
use Rattle.seg.specs.Arc.{chord_of}

module _ (g : Grade) where
  infixl 6 ◌⊕◌ ◌⊖◌
  infixl 7 ◌⊗◌ ◌⊘◌
  open arith g use {◌⊕◌, ◌⊖◌, ◌⊗◌, ◌⊘◌}
  open g use {one, two, four}

  unfoldable pub arc_tangent_of : PlineVertex → PlineVertex → Vector2 → Vector2
  arc_tangent_of v1 v2 p =
      let b = v1.bulge in
      let chord = chord_of g v1 v2 in
      let offset = vsub_of g (scale_of g (vsub_of g p (pos_of v1)) two) chord in
      let numerator = vadd_of g (scale_of g chord ((one ⊖ b) ⊗ (one ⊕ b))) (scale_of g (perp_of offset) (two ⊗ b)) in
      scale_of g numerator (one ⊘ (four ⊗ abs_of b))

  module _ (limit : Float) where
    unfoldable pub tangent_of : PlineVertex → PlineVertex → Vector2 → Vector2
    tangent_of v1 v2 p = cond (line_of g limit v1) (chord_of g v1 v2) (arc_tangent_of v1 v2 p)

    unfoldable pub seg_tangent : PlineVertex → PlineVertex → Vector2 → Reply Vector2
    seg_tangent v1 v2 p =
        check (seg_ok g v1 v2) bad_number
        (check (point_ok g p) bad_number
        (check (limit_ok g limit) bad_tolerance
        (given (tangent_of v1 v2 p))))
