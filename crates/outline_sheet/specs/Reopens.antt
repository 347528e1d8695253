-- What opening such a sheet gives: the outline to the bit, whether it is closed, and no view. proofs/Reopens.antt proves it of every sound outline.
use Rattle.std.specs.Prelude.{◌≡◌, Bool, List, ◌+◌, ◌*◌, length, Float}
use Rattle.real.specs.Reply.{given}
use Rattle.view.specs.Outline.{count_of}
use Rattle.job.specs.Header.{header_size, vertex_size, header_value}
use Rattle.job.specs.Sheet.{outline_of, open_of}
use Rattle.outline_sheet.specs.Sheet.{flags_of, sheet_bytes}

pub record Reopens (s : List Float) (closed : Bool) : Type 0 where
  pub header : header_value (sheet_bytes s closed) ≡ record { version = 1; flags = flags_of closed; vertices = count_of s; views = 0; vertex_offset = header_size; view_offset = header_size + vertex_size * count_of s }
  pub opens : open_of (sheet_bytes s closed) ≡ given (record { numbers = length s; parts = 2 })
  pub outline : outline_of (sheet_bytes s closed) ≡ s
