-- The outline Q and the record R of document 01's cases, and a record of one segment of Q.
use Rattle.std.specs.Prelude.{false, List, [], ◌∷◌, ℕ, Float}
use Rattle.plane.specs.Grade.{double}
use Rattle.plane.specs.Vertex.{vertex_at_of}
use Rattle.plane.specs.declared.vector2.Vector2.{Vector2}
use Rattle.seg.specs.Cases.{half, vec}
use Rattle.lists.specs.Plain.{Vert}
use Rattle.view.specs.declared.view_data.PlineViewData.{PlineViewData}
open double use {zero, one, two, four}

abbrev pub vert : Float → Float → Float → Vert Float
vert x y b = record { x = x; y = y; bulge = b }

-- "Q is (0,0,0), (4,0,0.5), (4,4,0), (0,4,0)"
unfoldable pub Q : List Float
Q = zero ∷ zero ∷ zero ∷ four ∷ zero ∷ half ∷ four ∷ four ∷ zero ∷ zero ∷ four ∷ zero ∷ []

-- "R is start 0, offset 2, updated start (1,0,0), end bulge 0, end (2,4), forward", but for its offset and its end
unfoldable pub like_r : ℕ → Vector2 → PlineViewData
like_r offset p =
    record {
      start_index = 0;
      end_index_offset = offset;
      updated_start = vertex_at_of one zero zero;
      updated_end_bulge = zero;
      end_point = p;
      inverted_direction = false;
      cut_number = 0;
    }

abbrev pub R : PlineViewData
R = like_r 2 (vec two four)

-- the arc of Q alone: a record with offset 0
unfoldable pub arc : PlineViewData
arc =
    record {
      start_index = 1;
      end_index_offset = 0;
      updated_start = vertex_at_of four zero half;
      updated_end_bulge = half;
      end_point = vec four four;
      inverted_direction = false;
      cut_number = 0;
    }
