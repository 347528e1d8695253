-- `seg_split_at_point` of pline_seg.rs. "Split tests in order: line; ends equal or point at start; point at end; arc."
use Rattle.std.specs.Prelude.{Bool, cond, ◌&&◌, Float}
use Rattle.std.specs.Float.Ieee.{lt, le, neg}
use Rattle.real.specs.Root.{abs_of, root_of}
use Rattle.real.specs.Refusal.{bad_number, bad_tolerance}
use Rattle.real.specs.Reply.{Reply, given, check}
use Rattle.plane.specs.Grade.{Grade, arith}
use Rattle.plane.specs.Vec.{vsub_of, length_sq_of, vnear_of}
use Rattle.plane.specs.Vertex.{vertex_at_of, pos_of, line_of}
use Rattle.plane.specs.Range.{tol_ok, limit_ok, point_ok, seg_ok}
use Rattle.plane.specs.declared.vector2.Vector2.{Vector2}
use Rattle.plane.specs.declared.pline_vertex.PlineVertex.{PlineVertex}
use Rattle.seg.specs.Arc.{chord_of}
use Rattle.seg.specs.declared.split.SplitResult.{SplitResult}

-- the updated start at one place with one bulge, the split vertex at another with another
abbrev pub split_at_of : Vector2 → Float → Vector2 → Float → SplitResult
split_at_of p1 b1 p2 b2 = record { updated_start = vertex_at_of p1.x p1.y b1; split_vertex = vertex_at_of p2.x p2.y b2 }

abbrev pub signed_of : Bool → Float → Float
signed_of negative m = cond negative (neg m) m

module _ (g : Grade) where
  infixl 6 ◌⊕◌ ◌⊖◌
  infixl 7 ◌⊗◌ ◌⊘◌
  open arith g use {◌⊕◌, ◌⊖◌, ◌⊗◌, ◌⊘◌}
  open g use {format, zero, one, two}

  -- "A squared sine above 1 becomes 1."
  abbrev pub half_sine : Float → Float
  half_sine squared = cond (lt one squared) one (root_of format squared)

  -- the bulge of a part of an arc, from its squared chord, the whole's, and the squared ratio of the whole's chord to the diameter
  unfoldable pub part_bulge : Bool → Float → Float → Float → Float
  part_bulge negative part whole ratio =
      let s = half_sine (part ⊘ whole ⊗ ratio) in
      let c = root_of format ((one ⊖ s) ⊗ (one ⊕ s)) in
      signed_of negative (s ⊘ (one ⊕ c))

  -- "The other bulge is (b - b1) / (1 + b*b1)."
  abbrev pub other_bulge_of : Float → Float → Float
  other_bulge_of b b1 = (b ⊖ b1) ⊘ (one ⊕ b ⊗ b1)

  unfoldable pub ratio_sq : Float → Float
  ratio_sq b =
      let a = abs_of b in
      let r = two ⊗ a ⊘ (a ⊗ a ⊕ one) in
      r ⊗ r

  -- "The smaller chord gives its bulge first, ties to the first."
  unfoldable pub split_chords_of : PlineVertex → Vector2 → Float → Float → Float → SplitResult
  split_chords_of v1 p whole c1 c2 =
      let b = v1.bulge in
      let part : Float → Float = λ c. part_bulge (lt b zero) c whole (ratio_sq b) in
      cond (le c1 c2) (split_at_of (pos_of v1) (part c1) p (other_bulge_of b (part c1))) (split_at_of (pos_of v1) (other_bulge_of b (part c2)) p (part c2))

  unfoldable pub split_arc_of : PlineVertex → PlineVertex → Vector2 → SplitResult
  split_arc_of v1 v2 p = split_chords_of v1 p (length_sq_of g (chord_of g v1 v2)) (length_sq_of g (vsub_of g p (pos_of v1))) (length_sq_of g (vsub_of g (pos_of v2) p))

  module _ (limit : Float) where
    unfoldable pub split_of : PlineVertex → PlineVertex → Vector2 → Float → SplitResult
    split_of v1 v2 p eps =
        let start = pos_of v1 in
        let end = pos_of v2 in
        let b = v1.bulge in
        cond (line_of g limit v1) (split_at_of start b p zero)
        (cond (vnear_of g start end eps) (split_at_of p zero p b)
        (cond (vnear_of g start p eps) (split_at_of p zero p b)
        (cond (vnear_of g end p eps) (split_at_of start b end zero)
        (split_arc_of v1 v2 p))))

    unfoldable pub seg_split : PlineVertex → PlineVertex → Vector2 → Float → Reply SplitResult
    seg_split v1 v2 p eps =
        check (seg_ok g v1 v2) bad_number
        (check (point_ok g p) bad_number
        (check (tol_ok g eps && limit_ok g limit) bad_tolerance
        (given (split_of v1 v2 p eps))))
