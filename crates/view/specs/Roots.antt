-- What the roots of a verdict are. No number of this page is the count: that is validation's own text, read at `counting`. proofs/Roots.antt proves it of every verdict that is given.
use Rattle.std.specs.Prelude.{◌≡◌, true, false, cond, ◌||◌, List, [], ◌∷◌, ℕ, ◌+◌, ◌≤◌, ltb, eqb, Float}
use Rattle.real.specs.Reply.{Reply, refused, given}
use Rattle.real.specs.Tally.{Tally, tally, counting}
use Rattle.plane.specs.Grade.{Grade, double}
use Rattle.plane.specs.Vec.{vnear_of}
use Rattle.plane.specs.Vertex.{vertex_at_of, pos_of, line_of}
use Rattle.plane.specs.declared.vector2.Vector2.{Vector2}
use Rattle.plane.specs.declared.pline_vertex.PlineVertex.{PlineVertex}
use Rattle.seg.specs.Arc.{center_of, sweeps_over_of}
use Rattle.seg.specs.Cases.{f64, vec}
use Rattle.lists.specs.View.{wrapped}
use Rattle.view.specs.Outline.{vertex_value, vertex_past_of, count_of}
use Rattle.view.specs.Segment.{near_end, on_outline_by, on_outline}
use Rattle.view.specs.Validation.{Verdict, start_off, end_off, valid, validate_of, validate_counted}
use Rattle.view.specs.Cases.{Q, R}
use Rattle.view.specs.declared.view_data.PlineViewData.{PlineViewData}
open double use {zero, one, two, line}

-- a reply without its count
abbrev pub uncounted : {A : Type 0} → Reply (Tally A) → Reply A
uncounted (refused n) = refused n
uncounted (given t) = given t.value

module _ (g : Grade) (limit : Float) (s : List Float) where
  -- the test of a point on segment k
  module _ (k : ℕ) (p : Vector2) where
    abbrev pub test_roots : ℕ
    test_roots = (on_outline_by counting g limit s k p).roots

    abbrev from : PlineVertex
    from = vertex_value s k

    abbrev to : PlineVertex
    to = vertex_past_of s k 1

    -- "A line, or a point near a segment end": within 0.001 mm of either end, which is tested before the closest point is asked for
    abbrev pub Rootless : Type 0
    Rootless = (line_of g limit from || near_end g from to p) ≡ true

    pub record TestRoots : Type 0 where
      -- without its roots it is the test alone
      pub stay : (on_outline_by counting g limit s k p).value ≡ on_outline g limit s k p
      -- "takes none"
      pub none : Rootless → test_roots ≡ 0
      -- and just when a test takes one: of an arc, the point away from both ends and from the centre, in the sweep
      pub exactly : test_roots ≡
          cond (near_end g from to p) 0
          (cond (line_of g limit from) 0
          (cond (vnear_of g p (center_of g from to) g.on_vertex) 0
          (cond (sweeps_over_of g from to (center_of g from to) p g.on_vertex) 1 0)))

  module _ (d : PlineViewData) where
    abbrev first : Vector2
    first = pos_of d.updated_start

    abbrev last : ℕ
    last = wrapped d.start_index d.end_index_offset (count_of s)

    pub record RootsTaken : Type 0 where
      -- "Verdicts stay."
      pub stay : uncounted (validate_counted g limit s d) ≡ validate_of g limit s d
      -- verdicts 1 and 2 take none, 3 what the start's test takes, and each later one what both tests take
      pub exactly : (t : Tally Verdict) → validate_counted g limit s d ≡ given t → t.roots ≡
          cond (ltb t.value.number 3) 0
          (cond (eqb t.value.number 3) (test_roots d.start_index first)
          (test_roots d.start_index first + test_roots last d.end_point))
      -- "prove that this is at most two"
      pub most : (t : Tally Verdict) → validate_counted g limit s d ≡ given t → t.roots ≤ 2
      -- none where neither end's test takes one, and at most one where either does not
      pub none : (t : Tally Verdict) → validate_counted g limit s d ≡ given t → Rootless d.start_index first → Rootless last d.end_point → t.roots ≡ 0
      pub start_none : (t : Tally Verdict) → validate_counted g limit s d ≡ given t → Rootless d.start_index first → t.roots ≤ 1
      pub end_none : (t : Tally Verdict) → validate_counted g limit s d ≡ given t → Rootless last d.end_point → t.roots ≤ 1

-- ---- each count is reached

abbrev five : Float
five = f64 0x4014_0000_0000_0000

abbrev eight : Float
eight = f64 0x4020_0000_0000_0000

abbrev ten : Float
ten = f64 0x4024_0000_0000_0000

abbrev minus_four : Float
minus_four = f64 0xc010_0000_0000_0000

-- the half circle about (5,0) from (0,0) to (10,0), below the line between them, and that line back
unfoldable pub Arch : List Float
Arch = zero ∷ zero ∷ one ∷ ten ∷ zero ∷ zero ∷ []

-- the view of it from a to b, on the half circle alone
unfoldable pub along : Vector2 → Vector2 → PlineViewData
along a b =
    record {
      start_index = 0;
      end_index_offset = 0;
      updated_start = vertex_at_of a.x a.y one;
      updated_end_bulge = one;
      end_point = b;
      inverted_direction = false;
      cut_number = 0;
    }

pub record RootCases : Type 0 where
  -- from end to end; from an end to a point between; between two points between
  pub zero_roots : validate_counted double line Arch (along (vec zero zero) (vec ten zero)) ≡ given (tally valid 0)
  pub one_root : validate_counted double line Arch (along (vec zero zero) (vec eight minus_four)) ≡ given (tally valid 1)
  pub two_roots : validate_counted double line Arch (along (vec two minus_four) (vec eight minus_four)) ≡ given (tally valid 2)
  -- a start and an end that are one point are tested one after the other, as in the crate
  pub one_point : validate_counted double line Arch (along (vec two minus_four) (vec two minus_four)) ≡ given (tally valid 2)
  -- a start off the arc takes one root to be told so, and at the centre none; the end is then not looked at
  pub start_is_off : validate_counted double line Arch (along (vec five minus_four) (vec eight minus_four)) ≡ given (tally (start_off (vec five minus_four)) 1)
  pub at_centre : validate_counted double line Arch (along (vec five zero) (vec eight minus_four)) ≡ given (tally (start_off (vec five zero)) 0)
  -- both ends looked at, and the verdict not valid
  pub end_is_off : validate_counted double line Arch (along (vec two minus_four) (vec five minus_four)) ≡ given (tally (end_off (vec five minus_four)) 2)
  -- R begins and ends on lines
  pub lines : validate_counted double line Q R ≡ given (tally valid 0)
