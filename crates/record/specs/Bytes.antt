-- "Little-endian." Numbers and floats in bytes.
use Rattle.std.specs.Prelude.{ℕ, ◌+◌, ◌*◌, ◌/◌, ◌%◌, List, [], ◌∷◌, ◌++◌, get_or, Float}
use Rattle.std.specs.Float.Ieee.{of_bits, to_bits}
use Rattle.std.specs.Float.{binary64}
use Rattle.plane.specs.Vertex.{vertex_at_of}
use Rattle.plane.specs.declared.vector2.Vector2.{Vector2}
use Rattle.plane.specs.declared.pline_vertex.PlineVertex.{PlineVertex}

-- the numbers of 2, 4 and 8 bytes from byte i on, where a byte past the end counts as 0, and the float that such 8 bytes stand for
unfoldable pub le16 : List ℕ → ℕ → ℕ
le16 b i = get_or b i 0 + 256 * get_or b (i + 1) 0

unfoldable pub le32 : List ℕ → ℕ → ℕ
le32 b i = le16 b i + 65536 * le16 b (i + 2)

unfoldable pub le64 : List ℕ → ℕ → ℕ
le64 b i = le32 b i + 4294967296 * le32 b (i + 4)

unfoldable pub float_at : List ℕ → ℕ → Float
float_at b i = of_bits binary64 (le64 b i)

-- three floats as a vertex, and two as a point
abbrev pub vertex_from : List ℕ → ℕ → PlineVertex
vertex_from b i = vertex_at_of (float_at b i) (float_at b (i + 8)) (float_at b (i + 16))

abbrev pub point_from : List ℕ → ℕ → Vector2
point_from b i = record { x = float_at b i; y = float_at b (i + 8) }

-- the last 4 bytes of a number, the last 8, and those of a float's pattern
unfoldable pub bytes4 : ℕ → List ℕ
bytes4 n = n % 256 ∷ n / 256 % 256 ∷ n / 65536 % 256 ∷ n / 16777216 % 256 ∷ []

unfoldable pub bytes8 : ℕ → List ℕ
bytes8 n = bytes4 (n % 4294967296) ++ bytes4 (n / 4294967296)

unfoldable pub float_bytes : Float → List ℕ
float_bytes x = bytes8 (to_bits binary64 x)
