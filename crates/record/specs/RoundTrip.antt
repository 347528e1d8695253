-- What the two round trips of a record ask: which records are written, which come back from their bytes, and which bytes from their record.
use Rattle.std.specs.Prelude.{◌≡◌, ℕ, ◌+◌, ◌*◌, ◌≤◌, ◌<◌, false, List, get_or, T}
use Rattle.std.specs.Float.{binary64}
use Rattle.std.specs.Float.Ieee.{fits, is_nan}
use Rattle.view.specs.declared.view_data.PlineViewData.{PlineViewData}
use Rattle.record.specs.Bytes.{float_at}
use Rattle.record.specs.Layout.{first_at, record_size, word_limit}

-- a record that is written into m bytes, n of them: its numbers are u32, and there is room
pub record Taken (d : PlineViewData) (m n : ℕ) : Type 0 where
  pub start : d.start_index < word_limit
  pub offset : d.end_index_offset < word_limit
  pub room : record_size ≤ m
  pub count : n ≡ record_size

-- a record whose floats are f64 and whose cut number is a u32, as every record's are that a program holds
pub record Fits (d : PlineViewData) : Type 0 where
  pub x : T (fits binary64 d.updated_start.x)
  pub y : T (fits binary64 d.updated_start.y)
  pub bulge : T (fits binary64 d.updated_start.bulge)
  pub end_bulge_fits : T (fits binary64 d.updated_end_bulge)
  pub end_x_fits : T (fits binary64 d.end_point.x)
  pub end_y_fits : T (fits binary64 d.end_point.y)
  pub number : d.cut_number < word_limit

-- bytes, as a program holds them
abbrev pub Bytes : List ℕ → Type 0
Bytes b = (i : ℕ) → get_or b i 0 < 256

-- bytes of which none of a record's six floats is a NaN: of the many patterns of a NaN only one would come back
pub record Plain (b : List ℕ) : Type 0 where
  pub bytes : Bytes b
  pub floats : (k : ℕ) → k < 6 → is_nan (float_at b (first_at + 8 * k)) ≡ false
