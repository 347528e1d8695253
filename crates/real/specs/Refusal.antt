-- The refusal numbers of documents 01 and 02, by name.
use Rattle.std.specs.Prelude.{ℕ, List, ◌++◌}
use Rattle.std.specs.Fmt.{decimal}
use Rattle.std.specs.Prelude.{codes}
use Rattle.real.specs.declared.refusal.Refusal.{Refusal}
use Rattle.real.specs.declared.refusal.Refusal.TheVariants as refusal

abbrev pub bad_number : ℕ
bad_number = 1

abbrev pub bad_tolerance : ℕ
bad_tolerance = 2

abbrev pub bad_outline : ℕ
bad_outline = 3

abbrev pub bad_index : ℕ
bad_index = 4

abbrev pub bad_offset : ℕ
bad_offset = 5

abbrev pub no_arc : ℕ
no_arc = 6

abbrev pub uneven_bulges : ℕ
uneven_bulges = 7

abbrev pub lacks_room : ℕ
lacks_room = 8

abbrev pub bad_trim : ℕ
bad_trim = 9

abbrev pub not_closed : ℕ
not_closed = 10

abbrev pub bad_sheet : ℕ
bad_sheet = 11

abbrev pub bad_record : ℕ
bad_record = 12

abbrev pub bad_text : ℕ
bad_text = 13

-- the number of a refusal
abbrev pub number_of : Refusal → ℕ
number_of refusal.BadNumber = bad_number
number_of refusal.BadTolerance = bad_tolerance
number_of refusal.BadOutline = bad_outline
number_of refusal.BadIndex = bad_index
number_of refusal.BadOffset = bad_offset
number_of refusal.NoArc = no_arc
number_of refusal.UnevenBulges = uneven_bulges
number_of refusal.NoRoom = lacks_room
number_of refusal.BadTrim = bad_trim
number_of refusal.NotClosed = not_closed
number_of refusal.BadSheet = bad_sheet
number_of refusal.BadRecord = bad_record
number_of refusal.BadText = bad_text

-- what a refusal prints
abbrev pub refused_words : Refusal → List ℕ
refused_words refusal = codes "refused " ++ decimal (number_of refusal)
