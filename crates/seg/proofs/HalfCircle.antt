-- A split never leaves the half circle: of a segment, a point and a tolerance in range, both vertices of the answer are in range.
use mathlib.Core.Path.{◌≡◌, refl, sym, subst}
use mathlib.Core.Logic.{◌⊎◌, inl, inr}
use mathlib.Core.Bool.{Bool, true, false, cond, ◌&&◌}
use Prim.Native.Nat.{ℕ, ◌+◌, ◌^◌, ◌≤◌}
use native.Mathlib.Nat.{le_trans}
use lib.Dec.{T, leb, lit≤}
use lib.Pow.{pow_mono}
use lib.Ieee.{Float, Format, binary32, binary64, emax, low, of_bits, lt, le}
use lib.Ieee.Bits.{is_true}
use lib.Ieee.Fits.{two as two_digits}
use lib.Ieee.Back.{round_whole}
use Rattle.real.specs.Root.{abs_of, root_of}
use Rattle.real.proofs.Bounds.{Within, Upto, upto, Level, level, From, from, Alike, weaker, bare, capped, ordered, not_over, past, signed, signed_alike, Whole, whole_power, add_upto, add_from, mul_upto, mul_from, square_is, mul_alike, div_upto, div_within, sub_within, sub_alike, sub_swap, sub_upto, root_upto}
use Rattle.real.proofs.Replies.{and_both}
use Rattle.plane.specs.Grade.{Grade, arith, double}
use Rattle.plane.specs.Vec.{vsub_of, length_sq_of, near_of, vnear_of}
use Rattle.plane.specs.Vertex.{vertex_at_of, pos_of, line_of}
use Rattle.plane.specs.Range.{coord_ok, bulge_ok, tol_ok, point_ok, vertex_ok, seg_ok}
use Rattle.plane.specs.declared.vector2.Vector2.{Vector2}
use Rattle.plane.specs.declared.pline_vertex.PlineVertex.{PlineVertex}
use Rattle.seg.specs.Arc.{chord_of}
use Rattle.seg.specs.Split.{half_sine, part_bulge, other_bulge_of, ratio_sq, signed_of, split_chords_of, split_arc_of, split_of}
use Rattle.seg.specs.declared.split.SplitResult.{SplitResult}

-- what the law uses of a grade's numbers: with these nothing in a split overflows, and the squared chord of ends that are apart is not lost, in either format
pub record Sound (g : Grade) : Type 0 where
  pub zero : Upto 0 g.zero
  pub one : Upto 1 g.one
  pub one_least : From 0 g.one
  pub two : Upto 2 g.two
  pub far : Upto (2 ^ 20) g.far
  pub tol_least : From 27 g.least_tol

pub double_sound : Sound double
unfolding of_bits
double_sound = record {
  zero = upto _ _ (lit≤ tt);
  one = upto _ _ (lit≤ tt);
  one_least = from _ _ (lit≤ tt);
  two = upto _ _ (lit≤ tt);
  far = upto _ _ (lit≤ tt);
  tol_least = from _ _ (lit≤ tt);
}

-- both vertices of a split are in range
abbrev pub InRange : Grade → SplitResult → Type 0
InRange g r = (vertex_ok g r.updated_start ≡ true) × (vertex_ok g r.split_vertex ≡ true)

-- ---- what either format has room for

room : (f : Format) → (127 ≤ emax f) × (127 ≤ low f)
room binary32 = (lit≤ tt, lit≤ tt)
room binary64 = (lit≤ tt, lit≤ tt)

whole : (f : Format) (k : ℕ) → T (leb k 127) → Whole f (2 ^ k)
whole f k t = whole_power f k (le_trans (lit≤ t) (room f).0)

part : (f : Format) (k : ℕ) → T (leb k 127) → k ≤ low f
part f k t = le_trans (lit≤ t) (room f).1

three : (f : Format) → Whole f 3
three f = round_whole f false 3 (le_trans (lit≤ tt) (pow_mono (two_digits f)))

-- ---- tests

and_false : (a b : Bool) → a && b ≡ false → (a ≡ false) ⊎ (b ≡ false)
and_false true b h = inr h
and_false false b h = inl refl

either : {A : Type 0} (P : A → Type 0) (t : Bool) {x y : A} → P x → (t ≡ false → P y) → P (cond t x y)
either P true h k = h
either P false h k = k refl

-- a vertex in range has its bulge in range
pub bulge_in : (g : Grade) (v : PlineVertex) → vertex_ok g v ≡ true → bulge_ok g v.bulge ≡ true
unfolding vertex_ok
bulge_in g v h = (and_both (coord_ok g v.y) _ (and_both (coord_ok g v.x) _ h).1).1

module _ (g : Grade) (sound : Sound g) where
  open arith g use {◌⊕◌, ◌⊖◌, ◌⊗◌, ◌⊘◌}
  open g use {format, zero, one, two}

  infixl 6 ◌⊕◌ ◌⊖◌
  infixl 7 ◌⊗◌ ◌⊘◌
  -- ---- squared lengths

  square : {x : Float} → Within (2 ^ 21) x → Upto (2 ^ 42) (x ⊗ x)
  square u = rw (square_is format u) (mul_upto format (whole format 42 tt) (bare u) (bare u))

  square_least : {x : Float} → Within (2 ^ 21) x → From 27 (abs_of x) → From 54 (x ⊗ x)
  square_least u h = rw (square_is format u) (mul_from format (part format 54 tt) h h (rw (square_is format u) at (square u)))

  module _ (a : Vector2) (h : Within (2 ^ 21) a.x) (k : Within (2 ^ 21) a.y) where
    length_most : Upto (2 ^ 43) (length_sq_of g a)
    length_most = add_upto format (whole format 43 tt) (square h) (level (square k))

    length_least : (From 27 (abs_of a.x)) ⊎ (From 27 (abs_of a.y)) → From 54 (length_sq_of g a)
    length_least l = add_from format (whole format 43 tt) (square h) (level (square k)) 54 (part format 54 tt) (elim l [ inl u ↦ inl (square_least h u) | inr u ↦ inr (square_least k u) ])

  -- ---- the bulge of a part

  -- 1 + y for a y from 0 to b
  module _ {b : ℕ} {y : Float} (w : Whole format (1 + b)) (l : Level b y) where
    more_most : Upto (1 + b) (one ⊕ y)
    more_most = add_upto format w sound.one l

    more_least : From 0 (one ⊕ y)
    more_least = add_from format w sound.one l 0 (part format 0 tt) (inl sound.one_least)

  ratio_most : {b : Float} → Within 1 b → Upto 4 (ratio_sq g b)
  unfolding ratio_sq
  ratio_most {b} u =
      let a = abs_of b in
      let n : Upto 2 (two ⊗ a) = mul_upto format (whole format 1 tt) sound.two (bare u) in
      let s : Upto 1 (a ⊗ a) = mul_upto format (whole format 0 tt) (bare u) (bare u) in
      let d : From 0 (a ⊗ a ⊕ one) = add_from format (whole format 1 tt) s (level sound.one) 0 (part format 0 tt) (inr sound.one_least) in
      let r : Upto 2 (two ⊗ a ⊘ (a ⊗ a ⊕ one)) = div_upto format d (whole format 1 tt) n in
      mul_upto format (whole format 2 tt) r r

  sine_most : {a : ℕ} (x : Float) → Upto a x → Upto 1 (half_sine g x)
  sine_most x u = either (Upto 1) _ sound.one (λ h. root_upto format 1 (whole format 0 tt) (lit≤ tt) (not_over sound.one u h))

  -- the magnitude that `part_bulge` gives its sign
  part_most : (t : Bool) (chord side ratio : Float) → From 54 chord → Upto (2 ^ 43) side → Upto 4 ratio → (q : Float) × (Upto 1 q) × (part_bulge g t side chord ratio ≡ signed_of t q)
  unfolding part_bulge
  part_most t chord side ratio l h k =
      let s = half_sine g (side ⊘ chord ⊗ ratio) in
      let u : Upto 1 s = sine_most (side ⊘ chord ⊗ ratio) (mul_upto format (whole format 99 tt) (div_upto format l (whole format 97 tt) h) k) in
      let c = root_of format ((one ⊖ s) ⊗ (one ⊕ s)) in
      let v : Upto 2 c = root_upto format 2 (whole format 1 tt) (lit≤ tt) (mul_upto format (whole format 1 tt) (sub_upto format (whole format 0 tt) sound.one sound.one_least u) (more_most (whole format 1 tt) (level u))) in
      (s ⊘ (one ⊕ c), div_upto format (more_least (three format) (level v)) (whole format 0 tt) u, refl)

  other_most : {b b1 : Float} → Within 1 b → Within 1 b1 → Alike b b1 → Within 1 (other_bulge_of g b b1)
  other_most h k l = div_within format (more_least (whole format 1 tt) (mul_alike format (whole format 0 tt) l h k)) (whole format 0 tt) (sub_alike format (whole format 0 tt) l h k)

  -- ---- ranges

  coord : (x : Float) → coord_ok g x ≡ true → Within (2 ^ 20) x
  unfolding coord_ok
  coord x h = capped x sound.far (subst T (sym h) tt)

  bulge_most : (b : Float) → bulge_ok g b ≡ true → Within 1 b
  unfolding bulge_ok
  bulge_most b h = capped b sound.one (subst T (sym h) tt)

  bulge_ok_law : (b : Float) → Within 1 b → bulge_ok g b ≡ true
  unfolding bulge_ok
  bulge_ok_law b u = is_true (le (abs_of b) one) (ordered u sound.one_least)

  vertex_parts : (v : PlineVertex) → vertex_ok g v ≡ true → (point_ok g (pos_of v) ≡ true) × (Within 1 v.bulge)
  unfolding point_ok vertex_ok
  vertex_parts v h =
      let a = and_both (coord_ok g v.x) (coord_ok g v.y && bulge_ok g v.bulge) h in
      let b = and_both (coord_ok g v.y) (bulge_ok g v.bulge) a.1 in
      (simp (a.0, b.0), bulge_most v.bulge b.1)

  placed : (p : Vector2) (b : Float) → point_ok g p ≡ true → Within 1 b → vertex_ok g (vertex_at_of p.x p.y b) ≡ true
  unfolding point_ok vertex_ok
  placed p b h u = let a = and_both (coord_ok g p.x) (coord_ok g p.y) h in simp (a.0, a.1, bulge_ok_law b u)

  point_parts : (p : Vector2) → point_ok g p ≡ true → (Within (2 ^ 20) p.x) × (Within (2 ^ 20) p.y)
  unfolding point_ok
  point_parts p h = let a = and_both (coord_ok g p.x) (coord_ok g p.y) h in (coord p.x a.0, coord p.y a.1)

  module _ (p q : Vector2) (h : point_ok g p ≡ true) (k : point_ok g q ≡ true) where
    side : (Within (2 ^ 21) (p.x ⊖ q.x)) × (Within (2 ^ 21) (p.y ⊖ q.y))
    side =
        let a = point_parts p h in
        let b = point_parts q k in
        (sub_within format (whole format 21 tt) a.0 b.0, sub_within format (whole format 21 tt) a.1 b.1)

    side_most : Upto (2 ^ 43) (length_sq_of g (vsub_of g p q))
    side_most = length_most (vsub_of g p q) side.0 side.1

    -- two places that are not fuzzily equal differ in a coordinate by the least tolerance or more
    side_least : (eps : Float) → tol_ok g eps ≡ true → vnear_of g q p eps ≡ false → From 54 (length_sq_of g (vsub_of g p q))
    unfolding tol_ok
    side_least eps t n =
        let a = point_parts p h in
        let b = point_parts q k in
        length_least (vsub_of g p q) side.0 side.1
        (elim (and_false (near_of g q.x p.x eps) (near_of g q.y p.y eps) n) [
          | inl r ↦ inl (far a.0 b.0 r)
          | inr r ↦ inr (far a.1 b.1 r)
        ])
      where
        least : T (le g.least_tol eps)
        least = subst T (sym (and_both (le g.least_tol eps) (le eps g.most_tol) t).0) tt

        far : {x y : Float} → Within (2 ^ 20) x → Within (2 ^ 20) y → near_of g y x eps ≡ false → From 27 (abs_of (x ⊖ y))
        far u v r = rw (sub_swap format u v) (past eps (bare (sub_within format (whole format 21 tt) v u)) sound.tol_least least r)

  -- ---- the split

  chords_in_range : (v1 : PlineVertex) (p : Vector2) (chord c1 c2 : Float) → vertex_ok g v1 ≡ true → point_ok g p ≡ true → From 54 chord → Upto (2 ^ 43) c1 → Upto (2 ^ 43) c2 → InRange g (split_chords_of g v1 p chord c1 c2)
  unfolding split_chords_of
  chords_in_range v1 p chord c1 c2 v h l u1 u2 =
      let r1 = both c1 u1 in
      let r2 = both c2 u2 in
      either (InRange g) (le c1 c2) (placed start (part_of c1) ok r1.0, placed p (other_bulge_of g b (part_of c1)) h r1.1)
      (λ _. (placed start (other_bulge_of g b (part_of c2)) ok r2.1, placed p (part_of c2) h r2.0))
    where
      b : Float
      b = v1.bulge

      start : Vector2
      start = pos_of v1

      ok : point_ok g start ≡ true
      ok = (vertex_parts v1 v).0

      small : Within 1 b
      small = (vertex_parts v1 v).1

      part_of : Float → Float
      part_of c = part_bulge g (lt b zero) c chord (ratio_sq g b)

      both : (c : Float) → Upto (2 ^ 43) c → (Within 1 (part_of c)) × (Within 1 (other_bulge_of g b (part_of c)))
      both c u =
          let r = part_most (lt b zero) chord c (ratio_sq g b) l u (ratio_most small) in
          let w : Within 1 (part_of c) = rw r.2 (signed (lt b zero) r.1) in
          (w, other_most small w (rw r.2 (signed_alike small r.1 sound.zero)))

  module _ (limit : Float) (v1 v2 : PlineVertex) (p : Vector2) (eps : Float) (seg : seg_ok g v1 v2 ≡ true) (point : point_ok g p ≡ true) (tol : tol_ok g eps ≡ true) where
    pub stays_in_range : InRange g (split_of g limit v1 v2 p eps)
    unfolding split_of split_arc_of seg_ok
    stays_in_range =
        either (InRange g) (line_of g limit v1) (placed start b first small, placed p zero point flat)
        (λ _. either (InRange g) (vnear_of g start end eps) (placed p zero point flat, placed p b point small)
        (λ n. either (InRange g) (vnear_of g start p eps) (placed p zero point flat, placed p b point small)
        (λ _. either (InRange g) (vnear_of g end p eps) (placed start b first small, placed end zero last flat)
        (λ _. chords_in_range v1 p (length_sq_of g (chord_of g v1 v2)) (length_sq_of g (vsub_of g p start)) (length_sq_of g (vsub_of g end p))
        ends.0 point (side_least end start last first eps tol n) (side_most p start point first) (side_most end p last point)))))
      where
        start : Vector2
        start = pos_of v1

        end : Vector2
        end = pos_of v2

        b : Float
        b = v1.bulge

        ends : (vertex_ok g v1 ≡ true) × (vertex_ok g v2 ≡ true)
        ends = and_both (vertex_ok g v1) (vertex_ok g v2) seg

        first : point_ok g start ≡ true
        first = (vertex_parts v1 ends.0).0

        last : point_ok g end ≡ true
        last = (vertex_parts v2 ends.1).0

        small : Within 1 b
        small = (vertex_parts v1 ends.0).1

        flat : Within 1 zero
        flat = weaker (lit≤ tt) (signed false sound.zero)
