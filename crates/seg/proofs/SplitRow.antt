-- A row of splits never leaves the half circle: both results of a split are in range (HalfCircle.antt), so whichever goes on is a start like the first one.
use mathlib.Core.Path.{◌≡◌, refl, subst}
use mathlib.Core.Bool.{true, ◌&&◌}
use mathlib.Core.List.{List, [], ◌∷◌}
use lib.Dec.{lit≤}
use lib.Ieee.{binary32, of_bits}
use Rattle.real.specs.Refusal.{bad_number, bad_tolerance}
use Rattle.real.specs.Reply.{given, and_then}
use Rattle.real.proofs.Replies.{same_given, check_given, and_both, went_on}
use Rattle.real.proofs.Bounds.{upto, from}
use Rattle.plane.specs.Grade.{Grade, double}
use Rattle.plane.specs.Range.{tol_ok, limit_ok, point_ok, vertex_ok, seg_ok}
use Rattle.seg.specs.Split.{split_of, seg_split}
use Rattle.seg.specs.SplitRow.{Segment, Part, first, second, SplitStep, part_of, passed_ok, split_by, split_row, SplitsOn, Reaches, HalfCircle}
use Rattle.seg.specs.declared.split.SplitResult.{SplitResult}
use Rattle.seg.proofs.Laws.{split_given}
use Rattle.seg.proofs.HalfCircle.{Sound, double_sound, InRange, bulge_in, stays_in_range}

module _ (g : Grade) (sound : Sound g) where
  abbrev Ok : Segment → Type 0
  Ok s = seg_ok g s.start s.end ≡ true

  -- a split that is given was asked at a point, with a tolerance and a limit in range
  results_ok : (c : SplitStep) (s : Segment) (r : SplitResult) → Ok s → split_by g c s ≡ given r → InRange g r
  unfolding seg_split
  results_ok c s r h e =
      let n = check_given (seg_ok g s.start s.end) bad_number _ e in
      let p = check_given (point_ok g c.point) bad_number _ n.1 in
      let t = check_given (tol_ok g c.tolerance && limit_ok g c.limit) bad_tolerance _ p.1 in
      subst (InRange g) (same_given t.1) (stays_in_range g sound c.limit s.start s.end c.point c.tolerance h p.0 (and_both (tol_ok g c.tolerance) _ t.0).0)

  part_ok : (part : Part) (s : Segment) (r : SplitResult) → Ok s → InRange g r → Ok (part_of part s.end r)
  unfolding seg_ok
  part_ok first s r h i = simp (i.0, i.1)
  part_ok second s r h i = simp (i.1, (and_both (vertex_ok g s.start) _ h).1)

  reached : (cs : List SplitStep) (s t : Segment) → Ok s → split_row g cs s ≡ given t → Ok t
  unfolding split_row
  reached [] s t h e = subst Ok (same_given e) h
  reached (c ∷ cs) s t h e =
      let p = went_on (split_by g c s) _ e in
      reached cs (part_of c.part s.end p.0) t (part_ok c.part s p.0 h (results_ok c s p.0 h p.1)) p.2

  splits_on : (t : Segment) → Ok t → SplitsOn g t
  unfolding seg_split seg_ok
  splits_on t h =
      record {
        own = bulge_in g t.start (and_both (vertex_ok g t.start) _ h).0;
        results = λ c r e. let i = results_ok c t r h e in (bulge_in g r.updated_start i.0, bulge_in g r.split_vertex i.1);
        in_range = h;
        next = λ c. simp h;
      }

  goes_on : (cs : List SplitStep) (s : Segment) → Ok s → passed_ok g cs ≡ true → Reaches g cs s
  unfolding split_row passed_ok and_then
  goes_on [] s h e = record { segment = s; is = refl }
  goes_on (c ∷ cs) s h e =
      let p = and_both (point_ok g c.point) _ e in
      let t = and_both (tol_ok g c.tolerance) _ p.1 in
      let l = and_both (limit_ok g c.limit) _ t.1 in
      let r = split_of g c.limit s.start s.end c.point c.tolerance in
      let answer = split_given g c.limit s.start s.end h l.0 c.point c.tolerance p.0 t.0 in
      let rest = goes_on cs (part_of c.part s.end r) (part_ok c.part s r h (results_ok c s r h answer)) l.1 in
      record { segment = rest.segment; is = rw answer rest.is }

-- at every grade whose numbers the law asks for, in either format
pub half_circle : (g : Grade) → Sound g → (s : Segment) → seg_ok g s.start s.end ≡ true → HalfCircle g s
half_circle g sound s h = record { rows = λ cs t e. splits_on g sound t (reached g sound cs s t h e); goes_on = λ cs p. goes_on g sound cs s h p }

-- of the library's own answers, at f64
pub half_circle_f64 : (s : Segment) → seg_ok double s.start s.end ≡ true → HalfCircle double s
half_circle_f64 = half_circle double double_sound

-- the other format, with the ranges that document 02 names for it: coordinates up to 10,000, tolerances from 1e-4, no limit but the default
abbrev single : Grade
single = record {
  format = binary32;
  zero = of_bits binary32 0;
  one = of_bits binary32 0x3f80_0000;
  two = of_bits binary32 0x4000_0000;
  four = of_bits binary32 0x4080_0000;
  fuzz = of_bits binary32 0x322b_cc77;
  line = of_bits binary32 0x322b_cc77;
  most_line = of_bits binary32 0x322b_cc77;
  far = of_bits binary32 0x461c_4000;
  least_tol = of_bits binary32 0x38d1_b717;
  most_tol = of_bits binary32 0x3f80_0000;
  on_vertex = of_bits binary32 0x3727_c5ac;
  on_segment = of_bits binary32 0x3a83_126f;
}

single_sound : Sound single
unfolding of_bits
single_sound = record {
  zero = upto _ _ (lit≤ tt);
  one = upto _ _ (lit≤ tt);
  one_least = from _ _ (lit≤ tt);
  two = upto _ _ (lit≤ tt);
  far = upto _ _ (lit≤ tt);
  tol_least = from _ _ (lit≤ tt);
}

pub half_circle_f32 : (s : Segment) → seg_ok single s.start s.end ≡ true → HalfCircle single s
half_circle_f32 = half_circle single single_sound
