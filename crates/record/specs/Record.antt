-- A record of a sheet, both ways. "W records of 64 bytes: start index u32, offset u32, updated start three f64, updated end bulge f64, end point two f64,
-- direction u32 (0 forward, 1 inverted)"; "The last four bytes of a sheet record become an unsigned cut number, 0 for none".
use Rattle.std.specs.Prelude.{ℕ, Bool, cond, List, ◌++◌, length, drop, ltb, leb, eqb}
use Rattle.real.specs.Refusal.{bad_index, bad_offset, lacks_room, bad_sheet, bad_record}
use Rattle.real.specs.Reply.{Reply, refused, given, check}
use Rattle.plane.specs.declared.vector2.Vector2.{Vector2}
use Rattle.plane.specs.declared.pline_vertex.PlineVertex.{PlineVertex}
use Rattle.view.specs.declared.view_data.PlineViewData.{PlineViewData}
use Rattle.record.specs.Bytes.{le32, float_at, vertex_from, point_from, bytes4, float_bytes}
use Rattle.record.specs.Layout.{start_at, offset_at, first_at, end_bulge_at, end_at, direction_at, cut_number_at, record_size, word_limit}

-- ---- read

-- what refusal 12 asks of a record's bytes: "direction not 0 or 1" does not hold; of the last four bytes "12 no longer speaks"
unfoldable pub fields_ok : List ℕ → Bool
fields_ok b = leb (le32 b direction_at) 1

abbrev pub record_value : List ℕ → PlineViewData
record_value b =
    record {
      start_index = le32 b start_at;
      end_index_offset = le32 b offset_at;
      updated_start = vertex_from b first_at;
      updated_end_bulge = float_at b end_bulge_at;
      end_point = point_from b end_at;
      inverted_direction = eqb (le32 b direction_at) 1;
      cut_number = le32 b cut_number_at;
    }

-- the record that bytes alone are: refused 11 for another length, then 12
unfoldable pub record_from : List ℕ → Reply PlineViewData
record_from b = check (eqb (length b) record_size) bad_sheet (check (fields_ok b) bad_record (given (record_value b)))

-- ---- written

unfoldable pub vertex_bytes : PlineVertex → List ℕ
vertex_bytes v = float_bytes v.x ++ float_bytes v.y ++ float_bytes v.bulge

unfoldable pub point_bytes : Vector2 → List ℕ
point_bytes p = float_bytes p.x ++ float_bytes p.y

unfoldable pub place_bytes : ℕ → ℕ → List ℕ
place_bytes start offset = bytes4 start ++ bytes4 offset

abbrev pub direction_of : Bool → ℕ
direction_of inverted = cond inverted 1 0

unfoldable pub end_bytes : Bool → ℕ → List ℕ
end_bytes inverted number = bytes4 (direction_of inverted) ++ bytes4 number

unfoldable pub record_bytes : PlineViewData → List ℕ
record_bytes d =
    place_bytes d.start_index d.end_index_offset ++ vertex_bytes d.updated_start ++ float_bytes d.updated_end_bulge
    ++ point_bytes d.end_point ++ end_bytes d.inverted_direction d.cut_number

-- into a lent buffer of m bytes: refused 5 or 4 for an offset or a start that is no u32, 8 for under 64 bytes, else the count
unfoldable pub record_to : PlineViewData → ℕ → Reply ℕ
record_to d m =
    check (ltb d.end_index_offset word_limit) bad_offset
    (check (ltb d.start_index word_limit) bad_index
    (check (leb record_size m) lacks_room (given record_size)))

-- "A refusal .. writes to no buffer"; "places past the list keep what they held"
unfoldable pub buffer_by : Reply ℕ → List ℕ → List ℕ → List ℕ
buffer_by (refused n) text before = before
buffer_by (given n) text before = text ++ drop n before

unfoldable pub record_buffer : PlineViewData → List ℕ → List ℕ
record_buffer d before = buffer_by (record_to d (length before)) (record_bytes d) before
