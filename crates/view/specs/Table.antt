-- Document 01's cases P1 to P12, as one statement. proofs/Table.antt proves it.
use Rattle.std.specs.Prelude.{◌≡◌, [], ◌∷◌}
use Rattle.real.specs.Reply.{given}
use Rattle.plane.specs.Grade.{double}
use Rattle.plane.specs.Vertex.{vertex_at_of}
use Rattle.seg.specs.Cases.{half, minus_half, minus_zero, vec}
use Rattle.seg.specs.Table.{SegmentTable}
use Rattle.lists.specs.Plain.{turn, trim}
use Rattle.view.specs.Rows.{row}
use Rattle.view.specs.Demand3.{Lists}
use Rattle.view.specs.Validation.{offset_out, end_off, end_on_vertex, validate_of}
use Rattle.view.specs.Cases.{vert, Q, R, like_r}
open double use {zero, one, two, four, line}

pub record Table : Type 0 where
  -- P1 to P6 and P12
  pub segments : SegmentTable
  -- P7 R lists (1,0,0), (4,0,0.5), (4,4,0), (2,4,0)
  pub p7 : Lists double Q R (vert one zero zero ∷ vert four zero half ∷ vert four four zero ∷ vert two four zero ∷ [])
  -- P8 reversed: (2,4,-0), (4,4,-0.5), (4,0,-0), (1,0,0)
  pub p8 : Lists double Q (row double Q (turn ∷ []) R) (vert two four minus_zero ∷ vert four four minus_half ∷ vert four zero minus_zero ∷ vert one zero zero ∷ [])
  -- P9 reversed, then trim 1 to 2: (4,4,-0.5), (4,0,0)
  pub p9 : Lists double Q (row double Q (turn ∷ trim 1 2 ∷ []) R) (vert four four minus_half ∷ vert four zero zero ∷ [])
  -- P10 offset 5 on Q: verdict 2 with 5 and 4; offset 4 passes that test
  pub p10_five : validate_of double line Q (like_r 5 (vec two four)) ≡ given (offset_out 5 4)
  pub p10_four : validate_of double line Q (like_r 4 (vec two four)) ≡ given (end_off (vec two four))
  -- P11 R with end (4,4): verdict 5
  pub p11 : validate_of double line Q (like_r 2 (vec four four)) ≡ given (end_on_vertex (vec four four) (vertex_at_of four four zero))
