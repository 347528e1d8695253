-- Document 01's cases P1 to P6 and P12, as one statement over the definitions at f64.
use Rattle.std.specs.Prelude.{◌≡◌}
use Rattle.std.specs.Float.{binary64}
use Rattle.real.specs.Sqrt.{IsSqrt}
use Rattle.real.specs.Reply.{given}
use Rattle.plane.specs.Grade.{double}
use Rattle.plane.specs.Vertex.{pos_of}
use Rattle.seg.specs.Arc.{seg_circle}
use Rattle.seg.specs.Split.{split_at_of, seg_split}
use Rattle.seg.specs.Tangent.{seg_tangent}
use Rattle.seg.specs.Middle.{seg_mid}
use Rattle.seg.specs.Bounds.{bounds, seg_box}
use Rattle.seg.specs.Cases.{f64, minus_zero, half, minus_half, minus_one, three, vec, H, H', G, G'}
open double use {zero, one, two, four, line, on_vertex}

pub record SegmentTable : Type 0 where
  -- P1 H: radius 0.5, centre (0.5,0)
  pub p1 : seg_circle double line H H' ≡ given (record { radius = half; center = vec half zero })
  -- P2, which "keeps only the true box" of H: (0,-0.5) to (1,0)
  pub p2 : seg_box double line H H' ≡ given (bounds zero minus_half one zero)
  -- P3 midpoint (0.5,-0.5)
  pub p3 : seg_mid double line H H' ≡ given (vec half minus_half)
  -- P4 tangent at (3,1) is (1,0); P5 at (2,2): (0,-1)
  pub p4 : seg_tangent double line G G' (vec three one) ≡ given (vec one zero)
  pub p5 : seg_tangent double line G G' (vec two two) ≡ given (vec zero minus_one)
  -- P6 H split at (3,0), tolerance 1e-5: start bulge 0, split vertex (3,0,1)
  pub p6 : seg_split double line H H' (vec three zero) on_vertex ≡ given (split_at_of (pos_of H) zero (vec three zero) one)
  -- P12 roots: 4 gives 2; 2 gives 3ff6a09e667f3bcd; bits 1 gives 1e60000000000000; minus zero stays
  pub p12_four : IsSqrt binary64 four (given two)
  pub p12_two : IsSqrt binary64 two (given (f64 0x3ff6_a09e_667f_3bcd))
  pub p12_least : IsSqrt binary64 (f64 1) (given (f64 0x1e60_0000_0000_0000))
  pub p12_minus_zero : IsSqrt binary64 minus_zero (given minus_zero)
