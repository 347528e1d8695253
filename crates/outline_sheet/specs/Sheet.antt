-- The job sheet of an outline, without views. "Little-endian. Header, 16 bytes: version 1 (2 bytes), flags (2; bit 0 closed, [...]), vertex count V (2), view
-- count W (2), vertex offset (4) = 16, view offset (4) = 16 + 24V. Then V times three f64".
use Rattle.std.specs.Prelude.{ℕ, ◌+◌, ◌*◌, ◌/◌, ◌%◌, Bool, cond, List, [], ◌∷◌, ◌++◌, length, leb, Float}
use Rattle.real.specs.Refusal.{bad_number, bad_outline, lacks_room}
use Rattle.real.specs.Reply.{Reply, given, check}
use Rattle.plane.specs.Grade.{double}
use Rattle.plane.specs.Range.{whole_outline}
use Rattle.view.specs.Outline.{count_of, numbers_ok}
use Rattle.record.specs.Bytes.{bytes4, float_bytes}
use Rattle.record.specs.Record.{buffer_by}
use Rattle.job.specs.Header.{header_size, vertex_size}

-- the last 2 bytes of a number
unfoldable pub bytes2 : ℕ → List ℕ
bytes2 n = n % 256 ∷ n / 256 % 256 ∷ []

-- the bit 0 of the flags; bit 1 "Sheet writers must leave [..] clear"
abbrev pub flags_of : Bool → ℕ
flags_of closed = cond closed 1 0

unfoldable pub header_bytes : ℕ → Bool → List ℕ
header_bytes v closed = bytes2 1 ++ bytes2 (flags_of closed) ++ bytes2 v ++ bytes2 0 ++ bytes4 header_size ++ bytes4 (header_size + vertex_size * v)

unfoldable pub number_bytes : List Float → List ℕ
number_bytes [] = []
number_bytes (x ∷ l) = float_bytes x ++ number_bytes l

unfoldable pub sheet_bytes : List Float → Bool → List ℕ
sheet_bytes s closed = header_bytes (count_of s) closed ++ number_bytes s

-- how many these are
abbrev pub sheet_size : List Float → ℕ
sheet_size s = header_size + 8 * length s

-- into a lent buffer of m bytes: 3 for no whole outline, 1 for a number out of range, 8 for room, else the count
unfoldable pub sheet_to : List Float → ℕ → Reply ℕ
sheet_to s m =
    check (whole_outline (length s)) bad_outline
    (check (numbers_ok double s) bad_number
    (check (leb (sheet_size s) m) lacks_room (given (sheet_size s))))

-- "A refusal .. writes to no buffer"; "places past the list keep what they held"
unfoldable pub sheet_buffer : List Float → Bool → List ℕ → List ℕ
sheet_buffer s closed before = buffer_by (sheet_to s (length before)) (sheet_bytes s closed) before
