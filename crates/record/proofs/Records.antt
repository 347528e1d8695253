-- A record that is written is read back as it was, and bytes that are read are written back as they were.
use mathlib.Core.Path.{◌≡◌, refl, sym, ap, ap₂, subst, ◌∙◌}
use mathlib.Core.Bool.{Bool, true, false, not}
use mathlib.Core.List.{List, [], ◌∷◌, ◌++◌}
use Prim.Native.Nat.{ℕ, zero, suc, ◌+◌, ◌*◌, ◌/◌, ◌%◌, ◌^◌, ◌≤◌, ◌<◌}
use native.Mathlib.Nat.{add_assoc, div-div-eq-div-mul, mod-eq_of_lt}
use native.Mathlib.Omega.{arith}
use lib.ListN.{length, get_or, take, drop}
use lib.Seq.{ext_get_or, take_at, get_or-append-add}
use lib.Dec.{T, ltb, leb, eqb}
use lib.Ieee.{Float, binary64, fits, is_nan, of_bits, to_bits}
use lib.Ieee.Bits.{of_bits-to_bits, to_bits-of_bits, to_bits-lt}
use borrow.Author.Tests.{ltb-true, lt-ltb, leb-true, le-leb, eqb-true, eq-eqb}
use Rattle.real.specs.Refusal.{bad_index, bad_offset, lacks_room, bad_sheet, bad_record}
use Rattle.real.specs.Reply.{Reply, given}
use Rattle.lists.specs.Plain.{tab}
use Rattle.view.specs.declared.view_data.PlineViewData.{PlineViewData}
use Rattle.lists.proofs.Tab.{length_tab, get_d_tab}
use Rattle.record.specs.Bytes.{le16, le32, le64, float_at, bytes4, bytes8, float_bytes}
use Rattle.record.specs.Layout.{start_at, offset_at, direction_at, cut_number_at, record_size, word_limit}
use Rattle.record.specs.Record.{record_value, fields_ok, record_from, vertex_bytes, point_bytes, place_bytes, direction_of, end_bytes, record_bytes, record_to, buffer_by, record_buffer}
use Rattle.record.specs.RoundTrip.{Taken, Fits, Bytes, Plain}
use Rattle.real.proofs.Replies.{check_given, same_given}

-- ---- written and read

digit : (x : ℕ) → x % 256 + 256 * (x / 256) ≡ x
digit x = omega arith

line : (n a b c p q r s : ℕ) → p + 256 * a ≡ n → q + 256 * b ≡ a → r + 256 * c ≡ b → s ≡ c → p + 256 * q + 65536 * (r + 256 * s) ≡ n
line n a b c p q r s e f g h = omega arith

pub join4 : (n : ℕ) → n < 4294967296 → n % 256 + 256 * (n / 256 % 256) + 65536 * (n / 65536 % 256 + 256 * (n / 16777216 % 256)) ≡ n
join4 n h =
    line n (n / 256) (n / 65536) (n / 16777216) (n % 256) (n / 256 % 256) (n / 65536 % 256) (n / 16777216 % 256)
    (digit n)
    (ap (λ (z : ℕ). n / 256 % 256 + 256 * z) (sym (div-div-eq-div-mul n 256 256)) ∙ digit (n / 256))
    (ap (λ (z : ℕ). n / 65536 % 256 + 256 * z) (sym (div-div-eq-div-mul n 65536 256)) ∙ digit (n / 65536))
    (mod-eq_of_lt (omega arith))

low : (n : ℕ) → n % 4294967296 < 4294967296
low n = omega arith

high : (n : ℕ) → n < 2 ^ 64 → n / 4294967296 < 4294967296
high n h = omega arith

halves : (n : ℕ) → n % 4294967296 + 4294967296 * (n / 4294967296) ≡ n
halves n = omega arith

-- a float's eight bytes
float_back : (x : Float) → T (fits binary64 x) → let n = to_bits binary64 x in let a = n % 4294967296 in let b = n / 4294967296 in
    of_bits binary64 (a % 256 + 256 * (a / 256 % 256) + 65536 * (a / 65536 % 256 + 256 * (a / 16777216 % 256)) + 4294967296 * (b % 256 + 256 * (b / 256 % 256) + 65536 * (b / 65536 % 256 + 256 * (b / 16777216 % 256)))) ≡ x
float_back x t =
    let n = to_bits binary64 x in
    ap (of_bits binary64) (ap₂ (λ (p q : ℕ). p + 4294967296 * q) (join4 (n % 4294967296) (low n)) (join4 (n / 4294967296) (high n (to_bits-lt binary64 x t))) ∙ halves n)
    ∙ of_bits-to_bits binary64 x t

pub float_length : (x : Float) → length (float_bytes x) ≡ 8
unfolding float_bytes bytes8 bytes4
float_length x = refl

-- they are read where they stand: before others, and behind them
pub float_first : (x : Float) (l : List ℕ) → T (fits binary64 x) → float_at (float_bytes x ++ l) 0 ≡ x
unfolding float_at le64 le32 le16 float_bytes bytes8 bytes4
float_first x l t = float_back x t

pub float_behind : (a b : List ℕ) (i : ℕ) → float_at (a ++ b) (length a + i) ≡ float_at b i
unfolding float_at le64 le32 le16
float_behind a b i = simp (add_assoc, get_or-append-add a b)

turn : (t : Bool) → let n = direction_of t in eqb (n % 256 + 256 * (n / 256 % 256) + 65536 * (n / 65536 % 256 + 256 * (n / 16777216 % 256))) 1 ≡ t
turn true = refl
turn false = refl

direction_ok : (t : Bool) → let n = direction_of t in leb (n % 256 + 256 * (n / 256 % 256) + 65536 * (n / 65536 % 256 + 256 * (n / 16777216 % 256))) 1 ≡ true
direction_ok true = refl
direction_ok false = refl

-- ---- which records are written, and which bytes are read

pub record_length : (d : PlineViewData) → length (record_bytes d) ≡ record_size
unfolding record_bytes place_bytes vertex_bytes point_bytes end_bytes float_bytes bytes8 bytes4
record_length d = refl

module _ (d : PlineViewData) (m : ℕ) where
  pub taken : {n : ℕ} → record_to d m ≡ given n → Taken d m n
  unfolding record_to
  taken e =
      let offset = check_given (ltb d.end_index_offset word_limit) bad_offset _ e in
      let start = check_given (ltb d.start_index word_limit) bad_index _ offset.1 in
      let room = check_given (leb record_size m) lacks_room _ start.1 in
      record { start = ltb-true _ _ start.0; offset = ltb-true _ _ offset.0; room = leb-true _ _ room.0; count = sym (same_given room.1) }

  pub takes : {n : ℕ} → Taken d m n → record_to d m ≡ given n
  unfolding record_to
  takes t = simp (lt-ltb _ _ t.offset, lt-ltb _ _ t.start, le-leb _ _ t.room) (ap given (sym t.count))

pub read : (b : List ℕ) (d : PlineViewData) → record_from b ≡ given d → (length b ≡ record_size) × (fields_ok b ≡ true) × (record_value b ≡ d)
unfolding record_from
read b d e =
    let size = check_given (eqb (length b) record_size) bad_sheet _ e in
    let form = check_given (fields_ok b) bad_record _ size.1 in
    (eqb-true _ _ size.0, form.0, same_given form.1)

-- what a buffer holds after a record is written
buffer_given : (d : PlineViewData) (before : List ℕ) {n : ℕ} → record_to d (length before) ≡ given n → record_buffer d before ≡ record_bytes d ++ drop n before
unfolding record_buffer buffer_by
buffer_given d before e = ap (λ (r : Reply ℕ). buffer_by r (record_bytes d) before) e

-- ---- there and back

-- a record's last four bytes are its cut number
pub number_there : (d : PlineViewData) → d.cut_number < word_limit → le32 (record_bytes d) cut_number_at ≡ d.cut_number
unfolding le32 le16 record_bytes place_bytes vertex_bytes point_bytes end_bytes float_bytes bytes8 bytes4
number_there d h = join4 d.cut_number h

module _ (d : PlineViewData) (f : Fits d) where
  module _ (start : d.start_index < word_limit) (offset : d.end_index_offset < word_limit) where
    record_there : record_value (record_bytes d) ≡ d
    unfolding float_at le64 le32 le16 record_bytes place_bytes end_bytes bytes4 bytes8 float_bytes vertex_bytes point_bytes
    record_there =
        let v = d.updated_start in
        let p = d.end_point in
        simp (
          join4 d.start_index start,
          join4 d.end_index_offset offset,
          float_back v.x f.x,
          float_back v.y f.y,
          float_back v.bulge f.bulge,
          float_back d.updated_end_bulge f.end_bulge_fits,
          float_back p.x f.end_x_fits,
          float_back p.y f.end_y_fits,
          turn d.inverted_direction,
          join4 d.cut_number f.number,
        )

    -- the bytes of a record with small numbers are read as that record
    pub from_small : record_from (record_bytes d) ≡ given d
    unfolding record_from fields_ok le32 le16 record_bytes place_bytes end_bytes bytes4 bytes8 float_bytes vertex_bytes point_bytes
    from_small = simp (direction_ok d.inverted_direction) (ap given record_there)

  -- so are the bytes of a record that is written, and what writing it left in the buffer
  pub from_written : {n : ℕ} (m : ℕ) → record_to d m ≡ given n → record_from (record_bytes d) ≡ given d
  from_written m e = let t = taken d m e in from_small t.start t.offset

  pub read_back : {n : ℕ} (before : List ℕ) → record_to d (length before) ≡ given n → record_from (take n (record_buffer d before)) ≡ given d
  read_back {n} before e =
      ap (λ (l : List ℕ). record_from (take n l)) (buffer_given d before e)
      ∙ ap record_from (take_at (record_bytes d) (drop n before) n (record_length d ∙ sym (taken d (length before) e).count))
      ∙ from_written (length before) e

-- ---- read and written

last : (x r : ℕ) → x < 256 → (x + 256 * r) % 256 ≡ x
last x r h = omega arith

digits : (x y z w : ℕ) → x < 256 → y < 256 → z < 256 → w < 256 → bytes4 (x + 256 * y + 65536 * (z + 256 * w)) ≡ x ∷ y ∷ z ∷ w ∷ []
unfolding bytes4
digits x y z w p q r s =
    let n : ℕ = x + 256 * y + 65536 * (z + 256 * w) in
    let q₀ : n ≡ x + 256 * (y + 256 * (z + 256 * w)) = omega arith in
    let q₁ : n / 256 ≡ y + 256 * (z + 256 * w) = omega arith in
    let q₂ : n / 65536 ≡ z + 256 * w = omega arith in
    let q₃ : n / 16777216 ≡ w + 256 * 0 = omega arith in
    let e₀ : n % 256 ≡ x = ap (λ (m : ℕ). m % 256) q₀ ∙ last x _ p in
    let e₁ : n / 256 % 256 ≡ y = ap (λ (m : ℕ). m % 256) q₁ ∙ last y _ q in
    let e₂ : n / 65536 % 256 ≡ z = ap (λ (m : ℕ). m % 256) q₂ ∙ last z w r in
    let e₃ : n / 16777216 % 256 ≡ w = ap (λ (m : ℕ). m % 256) q₃ ∙ last w 0 s in
    ap₂ (λ (a b : ℕ). a ∷ b ∷ n / 65536 % 256 ∷ n / 16777216 % 256 ∷ []) e₀ e₁ ∙ ap₂ (λ (a b : ℕ). x ∷ y ∷ a ∷ b ∷ []) e₂ e₃

split : (p q : ℕ) → p < 4294967296 → bytes8 (p + 4294967296 * q) ≡ bytes4 p ++ bytes4 q
unfolding bytes8
split p q h =
    let e₀ : (p + 4294967296 * q) % 4294967296 ≡ p = omega arith in
    let e₁ : (p + 4294967296 * q) / 4294967296 ≡ q = omega arith in
    ap₂ (λ (a b : ℕ). bytes4 a ++ bytes4 b) e₀ e₁

one_bit : (n : ℕ) → n ≤ 1 → direction_of (eqb n 1) ≡ n
one_bit zero h = refl
one_bit (suc zero) h = refl
one_bit (suc (suc n)) h = absurd (omega arith)

-- four bytes are a u32
pub le32_lt : (b : List ℕ) → Bytes b → (i : ℕ) → le32 b i < word_limit
unfolding le32 le16
le32_lt b h i = omega (arith, h i, h (i + 1), h (i + 2), h (i + 2 + 1))

module _ (b : List ℕ) (p : Plain b) where
  abbrev at : ℕ → ℕ
  at i = get_or b i 0

  four_back : (i : ℕ) → bytes4 (le32 b i) ≡ at i ∷ at (i + 1) ∷ at (i + 2) ∷ at (i + 2 + 1) ∷ []
  unfolding le32 le16
  four_back i = digits (at i) (at (i + 1)) (at (i + 2)) (at (i + 2 + 1)) (p.bytes i) (p.bytes (i + 1)) (p.bytes (i + 2)) (p.bytes (i + 2 + 1))

  le64_lt : (i : ℕ) → le64 b i < 2 ^ 64
  unfolding le64
  le64_lt i = omega (arith, le32_lt b p.bytes i, le32_lt b p.bytes (i + 4))

  eight_back : (i : ℕ) → is_nan (float_at b i) ≡ false → float_bytes (float_at b i) ≡ bytes4 (le32 b i) ++ bytes4 (le32 b (i + 4))
  unfolding float_bytes float_at le64
  eight_back i n =
      ap bytes8 (to_bits-of_bits binary64 (le64 b i) (le64_lt i) (subst (λ (t : Bool). T (not t)) (sym n) tt)) ∙ split (le32 b i) (le32 b (i + 4)) (le32_lt b p.bytes i)

  record_back : length b ≡ record_size → fields_ok b ≡ true → record_bytes (record_value b) ≡ b
  unfolding fields_ok record_bytes place_bytes end_bytes vertex_bytes point_bytes tab
  record_back n ok =
      let way : direction_of (eqb (le32 b 56) 1) ≡ le32 b 56 = one_bit (le32 b 56) (leb-true _ _ ok) in
      let whole : record_bytes (record_value b) ≡ tab at 64 =
      simp (
        eight_back 8 (p.floats 0 (omega arith)),
        eight_back 16 (p.floats 1 (omega arith)),
        eight_back 24 (p.floats 2 (omega arith)),
        eight_back 32 (p.floats 3 (omega arith)),
        eight_back 40 (p.floats 4 (omega arith)),
        eight_back 48 (p.floats 5 (omega arith)),
        way,
        four_back 0,
        four_back 4,
        four_back 8,
        four_back 12,
        four_back 16,
        four_back 20,
        four_back 24,
        four_back 28,
        four_back 32,
        four_back 36,
        four_back 40,
        four_back 44,
        four_back 48,
        four_back 52,
        four_back 56,
        four_back 60,
      ) in
      whole ∙ ap (tab at) (sym n) ∙ ext_get_or 0 (tab at (length b)) b (length_tab at (length b)) (λ i h. get_d_tab at (length b) i 0 (subst (λ (m : ℕ). i < m) (length_tab at (length b)) h))

  -- any 64 bytes with direction 0 or 1 are a record, whose bytes they are
  pub round_trip : length b ≡ record_size → le32 b direction_at ≤ 1 → (record_from b ≡ given (record_value b)) × (record_bytes (record_value b) ≡ b)
  unfolding record_from fields_ok
  round_trip n way =
      let ok : leb (le32 b direction_at) 1 ≡ true = le-leb _ _ way in
      (simp (eq-eqb (length b) record_size n, ok), record_back n ok)

  -- bytes that are read as a record are that record's bytes, and where there is room they are what writing it leaves in the buffer
  pub written_from : (d : PlineViewData) → record_from b ≡ given d → record_bytes d ≡ b
  written_from d e = let r = read b d e in ap record_bytes (sym r.2) ∙ record_back r.0 r.1

  pub written_back : (d : PlineViewData) (before : List ℕ) → record_from b ≡ given d → record_size ≤ length before
      → (record_to d (length before) ≡ given record_size) × (record_buffer d before ≡ b ++ drop record_size before)
  written_back d before e room =
      let is = (read b d e).2 in
      let t = takes d (length before) (subst (λ (r : PlineViewData). Taken r (length before) record_size) is (record { start = le32_lt b p.bytes start_at; offset = le32_lt b p.bytes offset_at; room = room; count = refl })) in
      (t, buffer_given d before t ∙ ap (λ (l : List ℕ). l ++ drop record_size before) (written_from d e))
