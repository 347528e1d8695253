-- What a drawing is turned into.
use Rattle.std.specs.Prelude.{List, ℕ}
use Rattle.real.specs.Reply.{Reply, given, and_then}
use Rattle.dxf.specs.Outline.{outline_of}
use Rattle.outline_sheet.specs.Sheet.{sheet_bytes}

-- the job sheet of its outline, or the outline's refusal
unfoldable pub drawing_sheet : List ℕ → Reply (List ℕ)
drawing_sheet b = and_then (outline_of b) (λ o. given (sheet_bytes o.numbers o.closed))

-- the longest drawing that the program reads, in bytes
abbrev pub drawing_bytes : ℕ
drawing_bytes = 4194304
