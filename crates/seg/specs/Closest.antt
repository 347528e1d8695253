-- `seg_closest_point` of pline_seg.rs, over a way w of taking roots.
use Rattle.std.specs.Prelude.{Bool, cond, ◌&&◌, Float}
use Rattle.std.specs.Float.Ieee.{lt}
use Rattle.real.specs.Root.{abs_of}
use Rattle.real.specs.Tally.{Way, plain}
use Rattle.real.specs.Refusal.{bad_number, bad_tolerance}
use Rattle.real.specs.Reply.{Reply, given, check}
use Rattle.plane.specs.Grade.{Grade, arith}
use Rattle.plane.specs.Vec.{vadd_of, vsub_of, scale_of, length_sq_of, vnear_of}
use Rattle.plane.specs.Math.{dist_sq_of, line_nearest}
use Rattle.plane.specs.Vertex.{pos_of, line_of}
use Rattle.plane.specs.Range.{tol_ok, limit_ok, point_ok, seg_ok}
use Rattle.plane.specs.declared.vector2.Vector2.{Vector2}
use Rattle.plane.specs.declared.pline_vertex.PlineVertex.{PlineVertex}
use Rattle.seg.specs.Arc.{chord_of, inv_four_bulge_of, center_of, sweeps_over_of}

abbrev pub nearer_of : Grade → Vector2 → Vector2 → Vector2 → Bool
nearer_of g a b p = lt (dist_sq_of g a p) (dist_sq_of g b p)

module _ (w : Way) (g : Grade) where
  infixl 6 ◌⊕◌
  infixl 7 ◌⊗◌ ◌⊘◌
  open arith g use {◌⊕◌, ◌⊗◌, ◌⊘◌}
  open g use {format, one}
  open w use {Step, done, root, ◌>>=◌}

  -- `radius_to_radial_length`
  unfoldable pub radial_scale_by : Float → Float → Float → Step Float
  radial_scale_by b chordSq radialSq = do
    ratio ← root format (chordSq ⊘ radialSq)
    done (ratio ⊗ (one ⊕ b ⊗ b) ⊗ abs_of (inv_four_bulge_of g b))

  unfoldable pub radial_by : PlineVertex → PlineVertex → Vector2 → Vector2 → Step Vector2
  radial_by v1 v2 center p =
      let radial = vsub_of g p center in
      do
        scale ← radial_scale_by v1.bulge (length_sq_of g (chord_of g v1 v2)) (length_sq_of g radial)
        done (vadd_of g (scale_of g radial scale) center)

  -- "at the centre, the start; inside the sweep, the radial point; else the nearer end, ties to the second"
  unfoldable pub arc_closest_by : PlineVertex → PlineVertex → Vector2 → Vector2 → Float → Step Vector2
  arc_closest_by v1 v2 center p eps =
      let start = pos_of v1 in
      let end = pos_of v2 in
      cond (vnear_of g p center eps) (done start)
      (cond (sweeps_over_of g v1 v2 center p eps) (radial_by v1 v2 center p)
      (cond (nearer_of g start end p) (done start) (done end)))

  unfoldable pub closest_by : Float → PlineVertex → PlineVertex → Vector2 → Float → Step Vector2
  closest_by limit v1 v2 p eps = cond (line_of g limit v1) (done (line_nearest g (pos_of v1) (pos_of v2) p)) (arc_closest_by v1 v2 (center_of g v1 v2) p eps)

module _ (g : Grade) (limit : Float) where
  -- the point alone
  abbrev pub closest_of : PlineVertex → PlineVertex → Vector2 → Float → Vector2
  closest_of = closest_by plain g limit

  unfoldable pub seg_closest : PlineVertex → PlineVertex → Vector2 → Float → Reply Vector2
  seg_closest v1 v2 p eps =
      check (seg_ok g v1 v2) bad_number
      (check (point_ok g p) bad_number
      (check (tol_ok g eps && limit_ok g limit) bad_tolerance
      (given (closest_of v1 v2 p eps))))
