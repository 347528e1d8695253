-- "Traced drawings hold arcs of bulge 1e-7 whose centres lie kilometres off; the nesting office wants them treated as lines": such an arc at the default limit and at 1e-6, and tests that keep 1e-8 at the largest limit. proofs/Traced.antt proves it.
use Rattle.std.specs.Prelude.{◌≡◌, Float}
use Rattle.real.specs.Refusal.{no_arc}
use Rattle.real.specs.Reply.{refused, given}
use Rattle.plane.specs.Grade.{double}
use Rattle.plane.specs.Vertex.{vertex_at_of}
use Rattle.plane.specs.declared.pline_vertex.PlineVertex.{PlineVertex}
use Rattle.seg.specs.Arc.{seg_circle}
use Rattle.seg.specs.Closest.{seg_closest}
use Rattle.seg.specs.Middle.{seg_mid}
use Rattle.seg.specs.Bounds.{bounds, seg_box}
use Rattle.seg.specs.Cases.{f64, vec}
open double use {zero, one, two, four, line, most_line, on_vertex}

-- the f64 nearest to 1e-7, and to 1e-6
abbrev pub small : Float
small = f64 0x3e7a_d7f2_9abc_af48

abbrev pub traced : Float
traced = f64 0x3eb0_c6f7_a0b5_ed8d

-- (0,0,1e-7) to (4,0)
abbrev pub from : PlineVertex
from = vertex_at_of zero zero small

abbrev pub to : PlineVertex
to = vertex_at_of four zero zero

pub record Traced : Type 0 where
  -- at the default limit an arc, whose centre lies 10 km off; at 1e-6 a line
  pub arc : seg_circle double line from to ≡ given (record { radius = f64 0x4163_12d0_0000_0036; center = vec two (f64 0x4163_12cf_ffff_ffcb) })
  pub straight : seg_circle double traced from to ≡ refused no_arc
  -- its box reaches 0.0000001993 below the ends', and is the ends'
  pub arc_box : seg_box double line from to ≡ given (bounds zero (f64 0xbe8a_c000_0000_0000) four zero)
  pub line_box : seg_box double traced from to ≡ given (bounds zero zero four zero)
  -- the point closest to (1,1): (0.9999999, -0.000000147), and (1,0)
  pub arc_point : seg_closest double line from to (vec one one) on_vertex ≡ given (vec (f64 0x3fef_ffff_ca50_19ec) (f64 0xbe83_c000_0000_0000))
  pub line_point : seg_closest double traced from to (vec one one) on_vertex ≡ given (vec one zero)
  -- a bulge of just the limit is an arc: the test is strict
  pub strict : seg_mid double small from to ≡ given (vec two (f64 0xbe8a_d7f2_9abc_af48))
  -- "Other fuzzy tests keep 1e-8": a projection of 1e-7 is not at the start of a line, and ends 1e-6 apart are not equal
  pub line_end : seg_closest double most_line (vertex_at_of zero zero zero) (vertex_at_of one zero zero) (vec small one) on_vertex ≡ given (vec small zero)
  pub arc_ends : seg_circle double most_line (vertex_at_of zero zero one) (vertex_at_of traced zero zero) ≡ given (record { radius = f64 0x3ea0_c6f7_a0b5_ed8d; center = vec (f64 0x3ea0_c6f7_a0b5_ed8d) zero })
