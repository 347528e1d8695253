-- The helpers that the published text names and does not hold, by document 01's working rules, which are quoted.
use Rattle.std.specs.Prelude.{Bool, cond, ◌&&◌, Float}
use Rattle.std.specs.Float.Ieee.{lt, neg}
use Rattle.plane.specs.Grade.{Grade, arith}
use Rattle.plane.specs.Vec.{vadd_of, vsub_of, scale_of, dot_of, perp_dot_of, length_sq_of}
use Rattle.plane.specs.declared.vector2.Vector2.{Vector2}
use Rattle.plane.specs.declared.math.MinMax.{MinMax}

-- "Min-max keeps its two numbers in order when the first is strictly less, else exchanges them."
abbrev pub min_max_of : Float → Float → MinMax
min_max_of a b = cond (lt a b) (record { min = a; max = b }) (record { min = b; max = a })

-- of the perpendicular dots a of (start - centre) and b of (end - centre): counter-clockwise "the first is above minus the tolerance and the
-- second below the tolerance; clockwise, the first is below the tolerance and the second above minus it"
abbrev pub sweep_of : Bool → Float → Float → Float → Bool
sweep_of clockwise a b eps = cond clockwise (lt a eps && lt (neg eps) b) (lt (neg eps) a && lt b eps)

module _ (g : Grade) where
  infixl 6 ◌⊕◌
  infixl 7 ◌⊘◌
  open arith g use {◌⊕◌, ◌⊘◌}
  open g use {two, fuzz}

  abbrev pub dist_sq_of : Vector2 → Vector2 → Float
  dist_sq_of a b = length_sq_of g (vsub_of g a b)

  -- "Midpoint is the sum over two for each coordinate."
  abbrev pub midpoint_of : Vector2 → Vector2 → Vector2
  midpoint_of a b = record { x = (a.x ⊕ b.x) ⊘ two; y = (a.y ⊕ b.y) ⊘ two }

  abbrev pub in_sweep_of : Vector2 → Vector2 → Vector2 → Bool → Vector2 → Float → Bool
  in_sweep_of center start end clockwise point eps =
      let offset = vsub_of g point center in
      sweep_of clockwise (perp_dot_of g (vsub_of g start center) offset) (perp_dot_of g (vsub_of g end center) offset) eps

  -- "Line closest point uses the two end tests seen in seg_distance_is_greater_than, and between them is the start plus the chord scaled by
  -- projection over squared chord length."
  abbrev pub line_nearest_by : Vector2 → Vector2 → Vector2 → Float → Float → Vector2
  line_nearest_by start end chord chordSq projection =
      cond (lt projection fuzz) start
      (cond (lt chordSq (projection ⊕ fuzz)) end
      (vadd_of g start (scale_of g chord (projection ⊘ chordSq))))

  abbrev pub line_nearest : Vector2 → Vector2 → Vector2 → Vector2
  line_nearest start end point = let chord = vsub_of g end start in line_nearest_by start end chord (length_sq_of g chord) (dot_of g (vsub_of g point start) chord)
