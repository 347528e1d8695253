-- "at other limits, to the same definition with that number in the bulge test": the limit decides nothing else. Where two limits agree on whether a segment is a line, every segment call answers the same. proofs/LimitAlone.antt proves it.
use Rattle.std.specs.Prelude.{◌≡◌, true, Float}
use Rattle.plane.specs.Grade.{Grade}
use Rattle.plane.specs.Vertex.{line_of}
use Rattle.plane.specs.Range.{limit_ok}
use Rattle.plane.specs.declared.vector2.Vector2.{Vector2}
use Rattle.plane.specs.declared.pline_vertex.PlineVertex.{PlineVertex}
use Rattle.seg.specs.Arc.{seg_circle}
use Rattle.seg.specs.Split.{seg_split}
use Rattle.seg.specs.Tangent.{seg_tangent}
use Rattle.seg.specs.Closest.{seg_closest}
use Rattle.seg.specs.Distance.{seg_far}
use Rattle.seg.specs.Bounds.{seg_box}
use Rattle.seg.specs.Middle.{seg_mid}

-- two limits in range
pub record BothOk (g : Grade) (limit other : Float) : Type 0 where
  pub one : limit_ok g limit ≡ true
  pub two : limit_ok g other ≡ true

-- the segment from v is a line by both, or by neither
abbrev pub SameLine : Grade → Float → Float → PlineVertex → Type 0
SameLine g limit other v = line_of g limit v ≡ line_of g other v

pub record LimitAlone (g : Grade) (limit other : Float) (v1 v2 : PlineVertex) : Type 0 where
  pub circle : seg_circle g limit v1 v2 ≡ seg_circle g other v1 v2
  pub split : (p : Vector2) (eps : Float) → seg_split g limit v1 v2 p eps ≡ seg_split g other v1 v2 p eps
  pub tangent : (p : Vector2) → seg_tangent g limit v1 v2 p ≡ seg_tangent g other v1 v2 p
  pub closest : (p : Vector2) (eps : Float) → seg_closest g limit v1 v2 p eps ≡ seg_closest g other v1 v2 p eps
  pub far : (p : Vector2) (distance eps : Float) → seg_far g limit v1 v2 p distance eps ≡ seg_far g other v1 v2 p distance eps
  pub box : seg_box g limit v1 v2 ≡ seg_box g other v1 v2
  pub mid : seg_mid g limit v1 v2 ≡ seg_mid g other v1 v2
