-- `seg_midpoint` of pline_seg.rs.
use Rattle.std.specs.Prelude.{cond, Float}
use Rattle.real.specs.Refusal.{bad_number, bad_tolerance}
use Rattle.real.specs.Reply.{Reply, given, check}
use Rattle.plane.specs.Grade.{Grade, arith}
use Rattle.plane.specs.Math.{midpoint_of}
use Rattle.plane.specs.Vertex.{pos_of, line_of}
use Rattle.plane.specs.Range.{limit_ok, seg_ok}
use Rattle.plane.specs.declared.vector2.Vector2.{Vector2}
use Rattle.plane.specs.declared.pline_vertex.PlineVertex.{PlineVertex}

module _ (g : Grade) where
  infixl 6 ◌⊕◌ ◌⊖◌
  infixl 7 ◌⊗◌ ◌⊘◌
  open arith g use {◌⊕◌, ◌⊖◌, ◌⊗◌, ◌⊘◌}

  -- the chord's midpoint, moved by the sagitta
  unfoldable pub arc_mid : PlineVertex → PlineVertex → Vector2
  arc_mid v1 v2 =
      let m = midpoint_of g (pos_of v1) (pos_of v2) in
      let half = v1.bulge ⊘ g.two in
      record { x = m.x ⊕ half ⊗ (v2.y ⊖ v1.y); y = m.y ⊖ half ⊗ (v2.x ⊖ v1.x) }

  module _ (limit : Float) where
    unfoldable pub mid_of : PlineVertex → PlineVertex → Vector2
    mid_of v1 v2 = cond (line_of g limit v1) (midpoint_of g (pos_of v1) (pos_of v2)) (arc_mid v1 v2)

    unfoldable pub seg_mid : PlineVertex → PlineVertex → Reply Vector2
    seg_mid v1 v2 =
        check (seg_ok g v1 v2) bad_number
        (check (limit_ok g limit) bad_tolerance
        (given (mid_of v1 v2)))
