-- "The zero-bulge test takes a limit from 1e-8 to 1e-3", at f64: what is in that range, and what a larger limit changes. proofs/Limits.antt proves it.
use Rattle.std.specs.Prelude.{◌≡◌, true, false, not, ◌||◌, Float}
use Rattle.std.specs.Float.{binary64, nan}
use Rattle.std.specs.Float.Ieee.{of_bits, le}
use Rattle.plane.specs.Grade.{double}
use Rattle.plane.specs.Vertex.{line_of}
use Rattle.plane.specs.Range.{limit_ok}
use Rattle.plane.specs.declared.pline_vertex.PlineVertex.{PlineVertex}

pub record Limits : Type 0 where
  -- both ends are in range, the next number on either side is not, nor is a NaN
  pub least : limit_ok double double.line ≡ true
  pub most : limit_ok double double.most_line ≡ true
  pub below : limit_ok double (of_bits binary64 0x3e45_798e_e230_8c39) ≡ false
  pub above : limit_ok double (of_bits binary64 0x3f50_624d_d2f1_a9fd) ≡ false
  pub no_number : limit_ok double nan ≡ false
  -- what is a line by a limit is one by every larger limit
  pub lines_stay : (low high : Float) (v : PlineVertex) → limit_ok double low ≡ true → limit_ok double high ≡ true → le low high ≡ true → line_of double low v ≡ true → line_of double high v ≡ true
  -- so the two agree on all but the arcs that the larger makes lines
  pub agree : (low high : Float) (v : PlineVertex) → limit_ok double low ≡ true → limit_ok double high ≡ true → le low high ≡ true → (line_of double low v || not (line_of double high v)) ≡ true
      → line_of double low v ≡ line_of double high v
