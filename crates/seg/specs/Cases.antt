-- The segments and numbers of document 01's 'Checked by hand'.
use Rattle.std.specs.Prelude.{ℕ, Float}
use Rattle.std.specs.Float.{binary64}
use Rattle.std.specs.Float.Ieee.{of_bits}
use Rattle.plane.specs.Grade.{double}
use Rattle.plane.specs.Vertex.{vertex_at_of}
use Rattle.plane.specs.declared.vector2.Vector2.{Vector2}
use Rattle.plane.specs.declared.pline_vertex.PlineVertex.{PlineVertex}
open double use {zero, one, two, four}

-- an f64 by its bit pattern
abbrev pub f64 : ℕ → Float
f64 b = of_bits binary64 b

abbrev pub minus_zero : Float
minus_zero = f64 0x8000_0000_0000_0000

abbrev pub half : Float
half = f64 0x3fe0_0000_0000_0000

abbrev pub minus_half : Float
minus_half = f64 0xbfe0_0000_0000_0000

abbrev pub minus_one : Float
minus_one = f64 0xbff0_0000_0000_0000

abbrev pub three : Float
three = f64 0x4008_0000_0000_0000

abbrev pub vec : Float → Float → Vector2
vec x y = record { x = x; y = y }

-- "H is (0,0,1) to (1,0)"
abbrev pub H : PlineVertex
H = vertex_at_of zero zero one

abbrev pub H' : PlineVertex
H' = vertex_at_of one zero zero

-- P4's segment: "(2,2,1) to (4,2)"
abbrev pub G : PlineVertex
G = vertex_at_of two two one

abbrev pub G' : PlineVertex
G' = vertex_at_of four two zero
