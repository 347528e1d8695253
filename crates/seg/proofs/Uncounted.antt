-- The closest point read without its roots is the same point.
use mathlib.Core.Path.{◌≡◌, refl}
use mathlib.Core.Bool.{Bool, true, false, cond}
use lib.Ieee.{Float}
use Rattle.real.specs.Tally.{Tally, plain, counting}
use Rattle.plane.specs.Grade.{Grade}
use Rattle.plane.specs.declared.vector2.Vector2.{Vector2}
use Rattle.plane.specs.declared.pline_vertex.PlineVertex.{PlineVertex}
use Rattle.seg.specs.Closest.{radial_scale_by, radial_by, arc_closest_by, closest_by}

-- the value of a choice
pub chosen_value : {A : Type 0} (b : Bool) (x y : Tally A) → (cond b x y).value ≡ cond b x.value y.value
chosen_value true x y = refl
chosen_value false x y = refl

module _ (g : Grade) (v1 v2 : PlineVertex) (p : Vector2) (eps : Float) where
  radial_value : (center : Vector2) → (radial_by counting g v1 v2 center p).value ≡ radial_by plain g v1 v2 center p
  unfolding radial_by radial_scale_by
  radial_value center = refl

  pub arc_value : (center : Vector2) → (arc_closest_by counting g v1 v2 center p eps).value ≡ arc_closest_by plain g v1 v2 center p eps
  unfolding arc_closest_by
  arc_value center = simp (chosen_value, radial_value)

  pub closest_value : (limit : Float) → (closest_by counting g limit v1 v2 p eps).value ≡ closest_by plain g limit v1 v2 p eps
  unfolding closest_by
  closest_value limit = simp (chosen_value, arc_value)
