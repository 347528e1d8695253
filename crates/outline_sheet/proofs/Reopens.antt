-- A sheet that is written opens again as what it was written from: `reopens`.
use mathlib.Core.Path.{◌≡◌, refl, sym, ap, ap₂, subst, ◌∙◌}
use mathlib.Core.Bool.{Bool, true, false}
use mathlib.Core.List.{List, [], ◌∷◌, ◌++◌}
use Prim.Native.Nat.{ℕ, zero, suc, ◌+◌, ◌*◌, ◌/◌, ◌%◌, ◌≤◌, ◌<◌}
use native.Mathlib.Nat.{not-suc-le-zero, le_of_suc-le-suc}
use native.Mathlib.Omega.{arith}
use lib.ListN.{length, get_or}
use lib.Seq.{ext_get_or}
use lib.Dec.{eqb, leb, ltb}
use lib.Ieee.{Float, nan}
use borrow.Author.Tests.{le-leb, leb-true, eqb-true, eq-eqb}
use Rattle.real.proofs.Replies.{and_both}
use Rattle.real.specs.Reply.{given}
use Rattle.plane.specs.Grade.{double}
use Rattle.plane.specs.Range.{most_vertices, whole_outline, vertex_ok}
use Rattle.plane.specs.Vertex.{vertex_at_of}
use Rattle.lists.specs.Every.{Every}
use Rattle.lists.proofs.Tab.{length_tab, get_d_tab}
use Rattle.view.specs.Outline.{count_of, vertex_value, all, numbers_ok}
use Rattle.view.specs.Sound.{Held, SoundOutline}
use Rattle.view.proofs.All.{all_same}
use Rattle.record.specs.Bytes.{le16, le32, bytes4, float_at, float_bytes}
use Rattle.record.proofs.Records.{join4, float_length, float_first, float_behind}
use Rattle.job.specs.Header.{header_size, vertex_size, header_value, header_under, header_good}
use Rattle.job.specs.Outline.{vertex_in_of, numbers_in}
use Rattle.record.specs.Record.{fields_ok}
use Rattle.job.specs.Sheet.{record_at_of, open_of}
use Rattle.job.specs.declared.header.Header.{Header}
use Rattle.job.proofs.Sheets.{Accepted, accepted_rest}
use Rattle.outline_sheet.specs.Sheet.{bytes2, flags_of, header_bytes, number_bytes, sheet_bytes}
use Rattle.outline_sheet.specs.Reopens.{Reopens}
use Rattle.outline_sheet.proofs.Written.{header_length, sheet_length}

-- ---- the numbers

-- number i of some that are f64
number_there : (l : List Float) (i : ℕ) → Every Held l → i < length l → float_at (number_bytes l) (8 * i) ≡ get_or l i nan
unfolding number_bytes Every
number_there [] i h n = absurd (not-suc-le-zero n)
number_there (x ∷ l) zero h n = float_first x (number_bytes l) h.0
number_there (x ∷ l) (suc i) h n =
    let e : 8 * suc i ≡ length (float_bytes x) + 8 * i = omega (arith, float_length x) in
    ap (float_at (float_bytes x ++ number_bytes l)) e ∙ float_behind (float_bytes x) (number_bytes l) (8 * i) ∙ number_there l i h.1 (le_of_suc-le-suc n)

module _ (s : List Float) (closed : Bool) (sound : SoundOutline s) where
  abbrev v : ℕ
  v = count_of s

  abbrev b : List ℕ
  b = sheet_bytes s closed

  -- whole vertices, and few enough
  threes : (length s ≡ 3 * v) × (v ≤ most_vertices)
  unfolding whole_outline
  threes =
      let w = and_both (eqb (length s % 3) 0) (leb v most_vertices) sound.whole in
      (omega (arith, eqb-true (length s % 3) 0 w.0), leb-true v most_vertices w.1)

  number_in : (i : ℕ) → i < length s → float_at b (header_size + 8 * i) ≡ get_or s i nan
  unfolding sheet_bytes
  number_in i n =
      let e : header_size + 8 * i ≡ length (header_bytes v closed) + 8 * i = omega (arith, header_length v closed) in
      ap (float_at (header_bytes v closed ++ number_bytes s)) e ∙ float_behind (header_bytes v closed) (number_bytes s) (8 * i) ∙ number_there s i sound.held n

  vertex_in : (k : ℕ) → k < v → vertex_in_of b k ≡ vertex_value s k
  vertex_in k h =
      let at : (j m : ℕ) → m ≡ header_size + 8 * j → j < 3 * v → float_at b m ≡ get_or s j nan = λ j m e l. ap (float_at b) e ∙ number_in j (omega (arith, threes.0)) in
      let x = at (3 * k) (header_size + vertex_size * k) (omega arith) (omega arith) in
      let y = at (3 * k + 1) (header_size + vertex_size * k + 8) (omega arith) (omega arith) in
      let z = at (3 * k + 2) (header_size + vertex_size * k + 16) (omega arith) (omega arith) in
      ap₂ (λ (x y : Float). vertex_at_of x y (float_at b (header_size + vertex_size * k + 16))) x y ∙ ap (vertex_at_of (get_or s (3 * k) nan) (get_or s (3 * k + 1) nan)) z

  -- ---- the header

  pub header_there : header_value b ≡ record { version = 1; flags = flags_of closed; vertices = v; views = 0; vertex_offset = header_size; view_offset = header_size + vertex_size * v }
  unfolding sheet_bytes header_bytes bytes2 bytes4 le32 le16
  header_there =
      let few : v < 65536 = omega (arith, threes.1) in
      let count : v % 256 + 256 * (v / 256 % 256) ≡ v = omega arith in
      simp (flags_there closed, count, join4 (header_size + vertex_size * v) (omega arith))
    where
      flags_there : (c : Bool) → flags_of c % 256 + 256 * (flags_of c / 256 % 256) ≡ flags_of c
      flags_there true = refl
      flags_there false = refl

  -- ---- what opening it asks

  header_ok : header_good b ≡ true
  unfolding header_good header_under
  header_ok =
      let n : length b ≡ header_size + vertex_size * v + 64 * 0 = sheet_length s closed ∙ omega (arith, threes.0) in
      ap (λ (h : Header). header_under most_vertices h (length b)) header_there
      ∙ simp (known closed, le-leb v most_vertices threes.1, eq-eqb (header_size + vertex_size * v) (header_size + vertex_size * v) refl, eq-eqb (length b) (header_size + vertex_size * v + 64 * 0) n)
    where
      known : (c : Bool) → ltb (flags_of c) 4 ≡ true
      known true = refl
      known false = refl

  accepted : Accepted b
  unfolding all numbers_ok
  accepted =
      record {
        header = header_ok;
        records = ap (λ (h : Header). all (λ k. fields_ok (record_at_of b k)) h.views) header_there;
        vertices = ap (λ (h : Header). all (λ k. vertex_ok double (vertex_in_of b k)) h.vertices) header_there ∙ all_same _ _ v (λ k h. ap (vertex_ok double) (vertex_in k h)) ∙ sound.numbers;
      }

  numbers_there : numbers_in b (length s) ≡ s
  unfolding numbers_in
  numbers_there =
      let n = length_tab (λ i. float_at b (header_size + 8 * i)) (length s) in
      ext_get_or nan _ s n (λ i h. let l = subst (λ (m : ℕ). i < m) n h in get_d_tab _ (length s) i nan l ∙ number_in i l)

  pub reopens : Reopens s closed
  unfolding open_of
  reopens =
      record {
        header = header_there;
        opens = accepted_rest b _ accepted ∙ ap (λ (h : Header). given (record { numbers = 3 * h.vertices; parts = h.views + 2 })) header_there ∙ ap (λ (n : ℕ). given (record { numbers = n; parts = 2 })) (sym threes.0);
        outline = ap (λ (h : Header). numbers_in b (3 * h.vertices)) header_there ∙ ap (numbers_in b) (sym threes.0) ∙ numbers_there;
      }
