-- The text reads the flags' byte for an unknown flag, for open or closed, and for the word; every other byte is the same.
use mathlib.Core.Path.{◌≡◌, refl, sym, ap, ap₂, fun_ext, ◌∙◌}
use Prim.Native.Nat.{ℕ, zero, suc, ◌+◌, ◌*◌, ◌/◌, ◌%◌, ◌≤◌}
use native.Mathlib.Omega.{arith}
use mathlib.Core.Bool.{Bool, true, false, cond}
use mathlib.Core.List.{List, ◌∷◌, ◌++◌}
use lib.ListN.{get_or, take, drop}
use lib.Dec.{ltb, eqb}
use lib.Ieee.{Float, binary64, of_bits}
use borrow.Author.Tests.{ltb-true, ltb-false, lt-ltb, le-ltb, eq-eqb}
use Rattle.real.specs.Refusal.{bad_number, bad_sheet, bad_record}
use Rattle.real.specs.Reply.{given, check}
use Rattle.plane.specs.Grade.{double}
use Rattle.plane.specs.Vertex.{vertex_at_of}
use Rattle.plane.specs.Range.{vertex_ok}
use Rattle.plane.specs.declared.pline_vertex.PlineVertex.{PlineVertex}
use Rattle.lists.specs.Plain.{tab}
use Rattle.view.specs.Outline.{all}
use Rattle.record.specs.Layout.{record_size}
use Rattle.record.specs.Bytes.{le16, le32, le64, float_at}
use Rattle.record.specs.Record.{fields_ok, record_value}
use Rattle.text.specs.Ascii.{ascii}
use Rattle.job.specs.Header.{header_size, vertex_size, unknown_flags, header_value, closed, retired, header_under, header_good}
use Rattle.job.specs.Outline.{vertex_in_of, numbers_in}
use Rattle.job.specs.Extent.{box_to, last_segment_of}
use Rattle.job.specs.Sheet.{vertices, views, record_at_of, records_of, sheet_of}
use Rattle.job.specs.Rows.{numbered}
use Rattle.job.specs.Lines.{outline_line, box_words, no_box_words, box_end}
use Rattle.job.specs.Views.{view_text}
use Rattle.job.specs.Parts.{answer_text, box_line, whole_text, sheet_text}
use Rattle.job.specs.RetiredSheets.{text_ending, RetiredSheets}

-- what two sheets have alike that differ in the flags' lower byte
module _ (v w x y : ℕ) (rest : List ℕ) where
  abbrev a : List ℕ
  a = v ∷ w ∷ x ∷ rest

  abbrev b : List ℕ
  b = v ∷ w ∷ y ∷ rest

  byte : (i : ℕ) → 3 ≤ i → get_or a i 0 ≡ get_or b i 0
  byte zero h = absurd (omega arith)
  byte (suc zero) h = absurd (omega arith)
  byte (suc (suc zero)) h = absurd (omega arith)
  byte (suc (suc (suc i))) h = refl

  past : (i : ℕ) → 3 ≤ i → drop i a ≡ drop i b
  past zero h = absurd (omega arith)
  past (suc zero) h = absurd (omega arith)
  past (suc (suc zero)) h = absurd (omega arith)
  past (suc (suc (suc i))) h = refl

  two : (i : ℕ) → 3 ≤ i → le16 a i ≡ le16 b i
  unfolding le16
  two i h = ap₂ (λ (m n : ℕ). m + 256 * n) (byte i h) (byte (i + 1) (omega arith))

  four : (i : ℕ) → 3 ≤ i → le32 a i ≡ le32 b i
  unfolding le32
  four i h = ap₂ (λ (m n : ℕ). m + 65536 * n) (two i h) (two (i + 2) (omega arith))

  number : (i : ℕ) → 3 ≤ i → float_at a i ≡ float_at b i
  unfolding float_at le64
  number i h = ap₂ (λ (m n : ℕ). of_bits binary64 (m + 4294967296 * n)) (four i h) (four (i + 4) (omega arith))

  vertex : (k : ℕ) → vertex_in_of a k ≡ vertex_in_of b k
  vertex k = λ i. vertex_at_of (number (header_size + vertex_size * k) (omega arith) i) (number (header_size + vertex_size * k + 8) (omega arith) i) (number (header_size + vertex_size * k + 16) (omega arith) i)

  numbers : (n : ℕ) → numbers_in a n ≡ numbers_in b n
  unfolding numbers_in
  numbers n = ap (λ (f : ℕ → Float). tab f n) (fun_ext (λ k. number (header_size + 8 * k) (omega arith)))

  records : (k : ℕ) → record_at_of a k ≡ record_at_of b k
  unfolding le16
  records k = ap (take record_size) (past (header_size + vertex_size * vertices a + record_size * k) (omega arith))

  header : ltb (le16 a 2) unknown_flags ≡ ltb (le16 b 2) unknown_flags → header_good a ≡ header_good b
  unfolding header_good header_under le16 le32
  header known = simp known

  -- a sheet's text by what it reads of its bytes
  abbrev text : Bool → Bool → List ℕ → (ℕ → PlineVertex) → (ℕ → List Float) → (ℕ → List ℕ) → List ℕ
  text good shut end vertex numbers record-at =
      let n = vertices a in
      answer_text
      (check good bad_sheet
      (check (all (λ k. fields_ok (record-at k)) (views a)) bad_record
      (check (all (λ k. vertex_ok double (vertex k)) n) bad_number
      (given
      (outline_line n (views a) shut
      ++ (cond (ltb n 2) no_box_words (box_words (box_to vertex n (last_segment_of shut n))) ++ end)
      ++ numbered (view_text shut (numbers (3 * n))) 0 (tab (λ k. record_value (record-at k)) (views a)))))))

  same : (end : List ℕ) → ltb (le16 a 2) unknown_flags ≡ ltb (le16 b 2) unknown_flags → closed (header_value a) ≡ closed (header_value b) → text_ending end a ≡ text_ending end b
  unfolding text_ending sheet_of records_of le16
  same end known shut = λ i. text (header known i) (shut i) end (fun_ext vertex i) (fun_ext numbers i) (fun_ext records i)

-- of the flags n, and n + 2 in their place: the bit is read, closed stays closed, and no flag becomes known or unknown
module _ (n : ℕ) (bit : n / 2 % 2 ≡ 0) where
  clear_bit : eqb (n / 2 % 2) 1 ≡ false
  clear_bit = ap (λ (m : ℕ). eqb m 1) bit

  set_bit : eqb ((n + 2) / 2 % 2) 1 ≡ true
  set_bit = eq-eqb ((n + 2) / 2 % 2) 1 (omega arith)

  closed_alike : eqb ((n + 2) % 2) 1 ≡ eqb (n % 2) 1
  closed_alike = let e : (n + 2) % 2 ≡ n % 2 = omega arith in ap (λ (m : ℕ). eqb m 1) e

  known_alike : ltb (n + 2) unknown_flags ≡ ltb n unknown_flags
  known_alike = go (ltb n unknown_flags) refl
    where
      go : (t : Bool) → ltb n unknown_flags ≡ t → ltb (n + 2) unknown_flags ≡ ltb n unknown_flags
      go true e = let h = ltb-true n unknown_flags e in lt-ltb (n + 2) unknown_flags (omega arith) ∙ sym e
      go false e = let h = ltb-false n unknown_flags e in le-ltb (n + 2) unknown_flags (omega arith) ∙ sym e

-- the text that stands has the word where the bit says so
stands : (b : List ℕ) → sheet_text b ≡ text_ending (box_end (retired (header_value b))) b
unfolding text_ending sheet_text whole_text box_line
stands b = refl

pub retired_sheets : (v w f : ℕ) (rest : List ℕ) → f / 2 % 2 ≡ 0 → RetiredSheets v w f rest
unfolding le16
retired_sheets v w f rest bit =
    let n = f + 256 * get_or rest 0 0 in
    let b : n / 2 % 2 ≡ 0 = omega arith in
    let up : f + 2 + 256 * get_or rest 0 0 ≡ n + 2 = omega arith in
    let c = v ∷ w ∷ f ∷ rest in
    let s = v ∷ w ∷ (f + 2) ∷ rest in
    record {
      clear = stands c ∙ ap (λ (t : Bool). text_ending (box_end t) c) (clear_bit n b);
      set =
          stands s ∙ ap (λ (t : Bool). text_ending (box_end t) s) (ap (λ (m : ℕ). eqb (m / 2 % 2) 1) up ∙ set_bit n b)
          ∙ same v w (f + 2) f rest (ascii " retired\n") (ap (λ (m : ℕ). ltb m unknown_flags) up ∙ known_alike n b) (ap (λ (m : ℕ). eqb (m % 2) 1) up ∙ closed_alike n b);
    }
