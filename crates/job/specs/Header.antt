-- A sheet's header.
use Rattle.std.specs.Prelude.{ℕ, ◌+◌, ◌*◌, ◌/◌, ◌%◌, Bool, ◌&&◌, List, length, ltb, leb, eqb}
use Rattle.plane.specs.Range.{most_vertices}
use Rattle.record.specs.Bytes.{le16, le32}
use Rattle.record.specs.Layout.{record_size}
use Rattle.job.specs.declared.header.Header.{Header}

-- "Sheet: at most 256 views."
abbrev pub most_views : ℕ
most_views = 256

-- "Header, 16 bytes"; a vertex is "three f64"
abbrev pub header_size : ℕ
header_size = 16

abbrev pub vertex_size : ℕ
vertex_size = 24

-- "Header, 16 bytes: version 1 (2 bytes), flags (2 ..), vertex count V (2), view count W (2), vertex offset (4) .., view offset (4)"
abbrev pub header_value : List ℕ → Header
header_value b =
    record {
      version = le16 b 0;
      flags = le16 b 2;
      vertices = le16 b 4;
      views = le16 b 6;
      vertex_offset = le32 b 8;
      view_offset = le32 b 12;
    }

-- "flags (2; bit 0 closed, [...])"
abbrev pub closed : Header → Bool
closed h = eqb (h.flags % 2) 1

-- "Stored sheets with flag bit 1 are still read"
abbrev pub retired : Header → Bool
retired h = eqb (h.flags / 2 % 2) 1

-- "11 still covers unknown flags and bit 1 stays known": from here on flags have a bit beyond bits 0 and 1
abbrev pub unknown_flags : ℕ
unknown_flags = 4

-- what refusal 11 asks of a header over a sheet of n bytes: "wrong length, version, count, offset or unknown flag"; "vertex offset (4) = 16, view
-- offset (4) = 16 + 24V"; "Length is exactly 16 + 24V + 64W." The vertex limit is `most`.
unfoldable pub header_under : ℕ → Header → ℕ → Bool
header_under most h n =
    eqb h.version 1
    && (ltb h.flags unknown_flags
    && (leb h.vertices most
    && (leb h.views most_views
    && (eqb h.vertex_offset header_size
    && (eqb h.view_offset (header_size + vertex_size * h.vertices)
    && eqb n (header_size + vertex_size * h.vertices + record_size * h.views))))))

abbrev pub header_fits_of : Header → ℕ → Bool
header_fits_of = header_under most_vertices

unfoldable pub header_good : List ℕ → Bool
header_good b = header_fits_of (header_value b) (length b)
