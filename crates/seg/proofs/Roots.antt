-- Where the closest point takes a root: for an arc alone, and there for the radial point alone.
use mathlib.Core.Path.{◌≡◌, refl}
use mathlib.Core.Bool.{Bool, true, false, cond}
use lib.Ieee.{Float}
use Rattle.real.specs.Tally.{Tally, counting}
use Rattle.plane.specs.Grade.{Grade}
use Rattle.plane.specs.Vec.{vnear_of}
use Rattle.plane.specs.Vertex.{line_of}
use Rattle.plane.specs.declared.vector2.Vector2.{Vector2}
use Rattle.plane.specs.declared.pline_vertex.PlineVertex.{PlineVertex}
use Rattle.seg.specs.Arc.{center_of, sweeps_over_of}
use Rattle.seg.specs.Closest.{radial_scale_by, radial_by, arc_closest_by, closest_by}

-- the roots of a choice
pub chosen_roots : {A : Type 0} (b : Bool) (x y : Tally A) → (cond b x y).roots ≡ cond b x.roots y.roots
chosen_roots true x y = refl
chosen_roots false x y = refl

chosen_same : {A : Type 0} (b : Bool) (x : A) → cond b x x ≡ x
chosen_same true x = refl
chosen_same false x = refl

module _ (g : Grade) (limit : Float) (v1 v2 : PlineVertex) (p : Vector2) (eps : Float) where
  abbrev center : Vector2
  center = center_of g v1 v2

  radial_roots : (radial_by counting g v1 v2 center p).roots ≡ 1
  unfolding radial_by radial_scale_by
  radial_roots = refl

  -- one for an arc, away from its centre and in its sweep; else none
  pub closest_roots : (closest_by counting g limit v1 v2 p eps).roots ≡ cond (line_of g limit v1) 0 (cond (vnear_of g p center eps) 0 (cond (sweeps_over_of g v1 v2 center p eps) 1 0))
  unfolding closest_by arc_closest_by
  closest_roots = simp (chosen_roots, chosen_same, radial_roots)
