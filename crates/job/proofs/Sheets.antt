-- What a sheet's check says, by its header at hand; and what an accepted sheet is.
use mathlib.Core.Path.{◌≡◌, refl, sym, ap, ap₂, ◌∙◌}
use mathlib.Core.Bool.{Bool, true, false}
use mathlib.Core.List.{List, ◌++◌}
use Prim.Native.Nat.{ℕ, ◌+◌, ◌*◌, ◌≤◌, ◌<◌}
use native.Mathlib.Omega.{arith}
use lib.ListN.{length, take, drop, length-append, length-drop}
use lib.Seq.{take_at}
use lib.Ieee.{Float}
use Rattle.real.specs.Refusal.{bad_number, bad_sheet, bad_record}
use Rattle.real.specs.Reply.{Reply, refused, given}
use Rattle.plane.specs.Grade.{double}
use Rattle.plane.specs.Range.{vertex_ok}
use Rattle.view.specs.Outline.{all}
use Rattle.view.specs.Answers.{buffer_after}
use Rattle.lists.proofs.Tab.{length_tab}
use Rattle.job.specs.declared.header.Header.{Header}
use Rattle.job.specs.declared.sheet.Opened.{Opened}
use Rattle.job.specs.Header.{header_value, header_good}
use Rattle.job.specs.Outline.{vertex_in_of, numbers_in}
use Rattle.job.specs.Sheet.{vertices, views, outline_of, records_ok, vertices_ok, sheet_of, sheet_bytes, outline_numbers, open_of, open_buffer}
use Rattle.real.proofs.Replies.{check_given, same_given}
use Rattle.job.proofs.Heads.{headed}

pub vertices_by : (b : List ℕ) (h : Header) → h ≡ header_value b → all (λ k. vertex_ok double (vertex_in_of b k)) h.vertices ≡ vertices_ok b
vertices_by b h e = ap (λ (k : Header). all (λ j. vertex_ok double (vertex_in_of b j)) k.vertices) e

-- ---- an accepted sheet

pub record Accepted (b : List ℕ) : Type 0 where
  pub header : header_good b ≡ true
  pub records : records_ok b ≡ true
  pub vertices : vertices_ok b ≡ true

module _ {A : Type 0} (b : List ℕ) where
  pub accepted : {a : A} (rest : Reply A) → sheet_of b rest ≡ given a → Accepted b
  unfolding sheet_of
  accepted rest e =
      let p = check_given (header_good b) bad_sheet _ e in
      let q = check_given (records_ok b) bad_record _ p.1 in
      record { header = p.0; records = q.0; vertices = (check_given (vertices_ok b) bad_number rest q.1).0 }

  pub accepted_rest : (rest : Reply A) → Accepted b → sheet_of b rest ≡ rest
  unfolding sheet_of
  accepted_rest rest a = simp (a.header, a.records, a.vertices)

-- a longer input than the longest sheet is refused 11
pub too_long : (b : List ℕ) → sheet_bytes < length b → open_of b ≡ refused bad_sheet
unfolding open_of sheet_of
too_long b n = simp (go (header_good b) refl)
  where
    go : (t : Bool) → header_good b ≡ t → header_good b ≡ false
    go false e = e
    go true e = let h = headed b (header_value b) e refl in absurd (omega (arith, h.size, h.offset, h.vertices, h.views))

-- ---- opening it

module _ (b : List ℕ) (o : Opened) (e : open_of b ≡ given o) where
  pub opened_accepted : Accepted b
  unfolding open_of
  opened_accepted = accepted b _ e

  pub opened_is : o ≡ record { numbers = 3 * vertices b; parts = views b + 2 }
  unfolding open_of
  opened_is = same_given (sym e ∙ accepted_rest b _ opened_accepted)

  -- the numbers that it answers are those of the sheet's outline
  pub opened_outline : (l : List Float) → take o.numbers (open_buffer b l) ≡ outline_of b
  unfolding open_buffer buffer_after numbers_in
  opened_outline l =
      ap₂ (λ (p : Opened) (r : Reply Opened). take p.numbers (buffer_after r l (outline_of b ++ drop (3 * vertices b) l))) opened_is e
      ∙ take_at (outline_of b) (drop (3 * vertices b) l) (3 * vertices b) (length_tab _ (3 * vertices b))

  -- they fit the outline's buffer, which keeps its length
  pub opened_few : o.numbers ≤ outline_numbers
  opened_few =
      let h = headed b (header_value b) opened_accepted.header refl in
      let n : o.numbers ≡ 3 * vertices b = ap (λ (p : Opened). p.numbers) opened_is in
      omega (arith, h.vertices)

  pub opened_length : (l : List Float) → length l ≡ outline_numbers → length (open_buffer b l) ≡ outline_numbers
  unfolding open_buffer buffer_after numbers_in
  opened_length l n =
      let h = headed b (header_value b) opened_accepted.header refl in
      let m : length (outline_of b) ≡ 3 * vertices b = length_tab _ (3 * vertices b) in
      ap (λ (r : Reply Opened). length (buffer_after r l (outline_of b ++ drop (3 * vertices b) l))) e
      ∙ length-append (outline_of b) (drop (3 * vertices b) l)
      ∙ omega (arith, length-drop (3 * vertices b) l)
