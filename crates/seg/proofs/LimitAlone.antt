-- Each definition asks for the limit in the bulge test and in its range's: where both tests answer alike, so does the call.
use mathlib.Core.Path.{◌≡◌}
use lib.Ieee.{Float}
use Rattle.real.specs.Tally.{Way, plain}
use Rattle.plane.specs.Grade.{Grade}
use Rattle.plane.specs.declared.vector2.Vector2.{Vector2}
use Rattle.plane.specs.declared.pline_vertex.PlineVertex.{PlineVertex}
use Rattle.seg.specs.Arc.{seg_circle}
use Rattle.seg.specs.Split.{split_of, seg_split}
use Rattle.seg.specs.Tangent.{tangent_of, seg_tangent}
use Rattle.seg.specs.Closest.{closest_by, seg_closest}
use Rattle.seg.specs.Distance.{far_of, seg_far}
use Rattle.seg.specs.Bounds.{box_of, seg_box}
use Rattle.seg.specs.Middle.{mid_of, seg_mid}
use Rattle.seg.specs.LimitAlone.{BothOk, SameLine, LimitAlone}

module _ (g : Grade) (limit other : Float) (v1 v2 : PlineVertex) (same : SameLine g limit other v1) where
  -- what the views use: the split, and the closest point in whichever way its roots are taken
  pub split_alone : (p : Vector2) (eps : Float) → split_of g limit v1 v2 p eps ≡ split_of g other v1 v2 p eps
  unfolding split_of
  split_alone p eps = simp same

  pub closest_alone : (w : Way) (p : Vector2) (eps : Float) → closest_by w g limit v1 v2 p eps ≡ closest_by w g other v1 v2 p eps
  unfolding closest_by
  closest_alone w p eps = simp same

  pub limit_alone : BothOk g limit other → LimitAlone g limit other v1 v2
  unfolding seg_circle seg_split seg_tangent tangent_of seg_closest seg_far far_of seg_box box_of seg_mid mid_of
  limit_alone ok =
      record {
        circle = simp (ok.one, ok.two, same);
        split = λ p eps. simp (ok.one, ok.two, split_alone p eps);
        tangent = λ p. simp (ok.one, ok.two, same);
        closest = λ p eps. simp (ok.one, ok.two, closest_alone plain p eps);
        far = λ p distance eps. simp (ok.one, ok.two, same);
        box = simp (ok.one, ok.two, same);
        mid = simp (ok.one, ok.two, same);
      }
