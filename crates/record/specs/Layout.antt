-- Where a record's fields begin: "start index u32, offset u32, updated start three f64, updated end bulge f64, end point two f64, direction u32 (0
-- forward, 1 inverted)", and "The last four bytes of a sheet record become an unsigned cut number, 0 for none".
use Rattle.std.specs.Prelude.{ℕ}

abbrev pub start_at : ℕ
start_at = 0

abbrev pub offset_at : ℕ
offset_at = 4

abbrev pub first_at : ℕ
first_at = 8

abbrev pub end_bulge_at : ℕ
end_bulge_at = 32

abbrev pub end_at : ℕ
end_at = 40

abbrev pub direction_at : ℕ
direction_at = 56

abbrev pub cut_number_at : ℕ
cut_number_at = 60

-- "records of 64 bytes"
abbrev pub record_size : ℕ
record_size = 64

-- no u32 reaches it
abbrev pub word_limit : ℕ
word_limit = 4294967296
