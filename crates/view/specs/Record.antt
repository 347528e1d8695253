-- The view record of the source, as the view of `View`, and the tests that the calls make of it.
use Rattle.std.specs.Prelude.{ℕ, ◌+◌, ◌*◌, ◌-◌, Bool, true, cond, not, ◌&&◌, ◌||◌, List, ltb, eqb, Float}
use Rattle.std.specs.Float.Ieee.{neg, to_bits}
use Rattle.plane.specs.Grade.{Grade}
use Rattle.plane.specs.Range.{bulge_ok, point_ok, vertex_ok}
use Rattle.plane.specs.declared.pline_vertex.PlineVertex.{PlineVertex}
use Rattle.lists.specs.Plain.{Vert}
use Rattle.lists.specs.View.{View, forward, backward, vertex_at_of, view_list, turn_view, part, trim_view}
use Rattle.view.specs.Outline.{count_of, vertex_past_of, vert_of, of_vert, src_of}
use Rattle.view.specs.declared.view_data.PlineViewData.{PlineViewData}

-- the struct's view, which is the crate's fields, and the struct of a cut number and a view
abbrev pub view_of : PlineViewData → View Float
view_of d =
    record {
      start = d.start_index;
      offset = d.end_index_offset;
      first = vert_of d.updated_start;
      end_bulge = d.updated_end_bulge;
      end_x = d.end_point.x;
      end_y = d.end_point.y;
      inverted = d.inverted_direction;
    }

abbrev pub data_of : ℕ → View Float → PlineViewData
data_of number r =
    record {
      start_index = r.start;
      end_index_offset = r.offset;
      updated_start = of_vert r.first;
      updated_end_bulge = r.end_bulge;
      end_point = record { x = r.end_x; y = r.end_y };
      inverted_direction = r.inverted;
      cut_number = number;
    }

-- the record turned round: "Reversal and trim keep [the cut number]"
abbrev pub turned_of : PlineViewData → PlineViewData
turned_of d = data_of d.cut_number (turn_view (view_of d))

-- how many vertices a view has, and how many numbers its list
abbrev pub vertices : PlineViewData → ℕ
vertices d = d.end_index_offset + 2

abbrev pub needed : PlineViewData → ℕ
needed d = 3 * vertices d

-- what refusal 7 asks for: "offset 0 and bulges of unequal bits" does not hold
unfoldable pub even_bits : Grade → PlineViewData → Bool
even_bits g d = not (eqb d.end_index_offset 0) || eqb (to_bits g.format d.updated_start.bulge) (to_bits g.format d.updated_end_bulge)

module _ (g : Grade) where
  -- position k of the forward list and of the inverted one, and the crate's `get_vertex`, over the structs
  abbrev pub forward_of : List Float → PlineViewData → ℕ → PlineVertex
  forward_of s d k = of_vert (forward g.zero (src_of s) (count_of s) (view_of d) k)

  abbrev pub backward_of : List Float → PlineViewData → ℕ → PlineVertex
  backward_of s d k = of_vert (backward neg g.zero (src_of s) (count_of s) (view_of d) k)

  abbrev pub record_vertex_of : List Float → PlineViewData → ℕ → PlineVertex
  record_vertex_of s d k = of_vert (vertex_at_of neg g.zero (src_of s) (count_of s) (view_of d) k)

  -- the view's list
  abbrev pub listed : List Float → PlineViewData → List (Vert Float)
  listed s d = view_list neg g.zero (src_of s) (count_of s) (view_of d)

  -- the record of positions a to b of the forward list
  abbrev pub part_of : List Float → PlineViewData → ℕ → ℕ → PlineViewData
  part_of s d a b = data_of d.cut_number (part g.zero (src_of s) (count_of s) a b (view_of d))

  -- the record of positions i to j of the view
  abbrev pub trimmed_of : List Float → PlineViewData → ℕ → ℕ → PlineViewData
  trimmed_of s d i j = data_of d.cut_number (trim_view g.zero (src_of s) (count_of s) i j (view_of d))

  -- the record's numbers are in range
  unfoldable pub record_ok : PlineViewData → Bool
  record_ok d = vertex_ok g d.updated_start && (bulge_ok g d.updated_end_bulge && point_ok g d.end_point)

  -- the vertex that lies `steps` past `start` is in range
  unfoldable pub past_ok : List Float → ℕ → ℕ → Bool
  past_ok s start steps = vertex_ok g (vertex_past_of s start steps)

  -- inverted, a position between the first and the last reads the vertex that stands there, and before position `offset` the one that its bulge is from
  unfoldable pub turned_ok : List Float → ℕ → ℕ → ℕ → Bool
  turned_ok s start offset k = past_ok s start (offset + 1 - k) && (eqb k offset || past_ok s start (offset - k))

  -- "only the source vertices that it reads": at the first and the last position none; forward the k-th past the start
  unfoldable pub reads_ok : List Float → PlineViewData → ℕ → Bool
  reads_ok s d k =
      cond (eqb k 0 || ltb d.end_index_offset k) true
      (cond d.inverted_direction (turned_ok s d.start_index d.end_index_offset k) (past_ok s d.start_index k))
