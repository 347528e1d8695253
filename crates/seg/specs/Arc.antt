-- `seg_arc_radius_and_center` of pline_seg.rs.
use Rattle.std.specs.Prelude.{Bool, cond, Float}
use Rattle.std.specs.Float.Ieee.{lt}
use Rattle.real.specs.Root.{abs_of}
use Rattle.real.specs.Refusal.{bad_number, bad_tolerance, no_arc}
use Rattle.real.specs.Reply.{Reply, refused, given, check}
use Rattle.plane.specs.Grade.{Grade, arith}
use Rattle.plane.specs.Vec.{vadd_of, vsub_of, scale_of, perp_of, length_of, vnear_of}
use Rattle.plane.specs.Math.{in_sweep_of}
use Rattle.plane.specs.Vertex.{pos_of, line_of}
use Rattle.plane.specs.Range.{limit_ok, seg_ok}
use Rattle.plane.specs.declared.vector2.Vector2.{Vector2}
use Rattle.plane.specs.declared.pline_vertex.PlineVertex.{PlineVertex}
use Rattle.seg.specs.declared.arc.Circle.{Circle}

module _ (g : Grade) where
  infixl 6 ◌⊕◌ ◌⊖◌
  infixl 7 ◌⊗◌ ◌⊘◌
  open arith g use {◌⊕◌, ◌⊖◌, ◌⊗◌, ◌⊘◌}
  open g use {zero, one, two, four, fuzz}

  abbrev pub chord_of : PlineVertex → PlineVertex → Vector2
  chord_of v1 v2 = vsub_of g (pos_of v2) (pos_of v1)

  -- whether a point lies in the sweep of the arc about a centre
  abbrev pub sweeps_over_of : PlineVertex → PlineVertex → Vector2 → Vector2 → Float → Bool
  sweeps_over_of v1 v2 center p eps = in_sweep_of g center (pos_of v1) (pos_of v2) (lt v1.bulge zero) p eps

  abbrev pub inv_four_bulge_of : Float → Float
  inv_four_bulge_of b = one ⊘ (four ⊗ b)

  unfoldable pub radius_of : PlineVertex → PlineVertex → Float
  radius_of v1 v2 =
      let b = v1.bulge in
      length_of g (chord_of v1 v2) ⊗ (one ⊕ b ⊗ b) ⊗ abs_of (inv_four_bulge_of b)

  -- "Centre uses (1 - b)(1 + b), never 1 - b*b."
  unfoldable pub center_of : PlineVertex → PlineVertex → Vector2
  center_of v1 v2 =
      let b = v1.bulge in
      let chord = chord_of v1 v2 in
      vadd_of g (vadd_of g (pos_of v1) (scale_of g chord (one ⊘ two))) (scale_of g (perp_of chord) ((one ⊖ b) ⊗ (one ⊕ b) ⊗ inv_four_bulge_of b))

  abbrev pub circle_of : PlineVertex → PlineVertex → Circle
  circle_of v1 v2 = record { radius = radius_of v1 v2; center = center_of v1 v2 }

  module _ (limit : Float) where
    -- 6: "radius and centre of a line, or of an arc whose ends are fuzzily equal"
    unfoldable pub seg_circle : PlineVertex → PlineVertex → Reply Circle
    seg_circle v1 v2 =
        check (seg_ok g v1 v2) bad_number
        (check (limit_ok g limit) bad_tolerance
        (cond (line_of g limit v1) (refused no_arc)
        (cond (vnear_of g (pos_of v1) (pos_of v2) fuzz) (refused no_arc)
        (given (circle_of v1 v2)))))
