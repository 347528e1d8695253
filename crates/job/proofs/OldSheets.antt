-- Under two limits, neither of them below its vertex count, a sheet prints the same: the tests that ask for the limit hold under both.
use mathlib.Core.Path.{◌≡◌, refl, sym, ap, ap₂, ◌∙◌}
use Prim.Native.Nat.{ℕ, ◌*◌, ◌/◌, ◌≤◌, ◌<◌}
use native.Mathlib.Omega.{arith}
use mathlib.Core.Bool.{Bool, true, false, ◌&&◌}
use mathlib.Core.List.{List, ◌++◌}
use lib.ListN.{length}
use lib.Ieee.{of_bits, le, lt, eq}
use borrow.Author.Tests.{le-leb, lt-leb}
use Rattle.real.specs.Refusal.{bad_number, bad_outline, bad_sheet, bad_record}
use Rattle.real.specs.Reply.{given, check}
use Rattle.real.specs.Tally.{plain}
use Rattle.plane.specs.Grade.{double}
use Rattle.plane.specs.Range.{most_vertices, whole_outline, limit_ok}
use Rattle.lists.proofs.Tab.{length_tab}
use Rattle.view.specs.Outline.{numbers_ok}
use Rattle.view.specs.Record.{record_ok}
use Rattle.view.specs.Validation.{counts_by, validate_by}
use Rattle.view.specs.declared.view_data.PlineViewData.{PlineViewData}
use Rattle.job.specs.Header.{header_value, closed, header_under, header_good}
use Rattle.job.specs.Outline.{numbers_in}
use Rattle.job.specs.Sheet.{vertices, outline_of, records_of, records_ok, vertices_ok, sheet_of}
use Rattle.job.specs.Lines.{refused_line, outline_line}
use Rattle.job.specs.Views.{verdict_text, view_text}
use Rattle.job.specs.Parts.{box_line, answer_text, whole_text, sheet_text}
use Rattle.job.specs.OldSheets.{old_most, whole_under, validate_under, view_text_under, whole_text_under, sheet_text_under, OldSheets}
use Rattle.job.proofs.Joined.{numbered_ext}

module _ (m n : ℕ) (b : List ℕ) (p : vertices b ≤ m) (q : vertices b ≤ n) where
  whole_same : whole_under m (length (outline_of b)) ≡ whole_under n (length (outline_of b))
  unfolding whole_under numbers_in
  whole_same =
      let size : length (outline_of b) ≡ 3 * vertices b = length_tab _ (3 * vertices b) in
      let few : length (outline_of b) / 3 ≡ vertices b = omega (arith, size) in
      simp (few, le-leb (vertices b) m p, le-leb (vertices b) n q)

  view_same : (closed : Bool) (k : ℕ) (d : PlineViewData) → view_text_under m closed (outline_of b) k d ≡ view_text_under n closed (outline_of b) k d
  unfolding view_text_under validate_under
  view_same closed k d =
      ap
      (λ (whole : Bool). verdict_text closed (outline_of b) d k (check whole bad_outline (check (numbers_ok double (outline_of b) && record_ok double d) bad_number (counts_by plain double double.line (outline_of b) d))))
      whole_same

  whole_text_same : whole_text_under m b ≡ whole_text_under n b
  unfolding whole_text_under
  whole_text_same =
      let h = header_value b in
      ap (λ (t : List ℕ). outline_line h.vertices h.views (closed h) ++ box_line b ++ t)
      (numbered_ext (view_text_under m (closed h) (outline_of b)) (view_text_under n (closed h) (outline_of b)) (view_same (closed h)) 0 (records_of b))

  header_same : header_under m (header_value b) (length b) ≡ header_under n (header_value b) (length b)
  unfolding header_under
  header_same = simp (le-leb (vertices b) m p, le-leb (vertices b) n q)

  same_under : sheet_text_under m b ≡ sheet_text_under n b
  unfolding sheet_text_under
  same_under =
      ap₂
      (λ (good : Bool) (t : List ℕ). answer_text (check good bad_sheet (check (records_ok b) bad_record (check (vertices_ok b) bad_number (given t)))))
      header_same whole_text_same

and_false : (a : Bool) → (a && false) ≡ false
and_false true = refl
and_false false = refl

over : (m : ℕ) (b : List ℕ) → m < vertices b → sheet_text_under m b ≡ refused_line bad_sheet
unfolding sheet_text_under header_under
over m b h = simp (lt-leb (vertices b) m h, and_false)

stands : (b : List ℕ) → sheet_text_under most_vertices b ≡ sheet_text b
unfolding sheet_text_under whole_text_under view_text_under validate_under whole_under sheet_text sheet_of header_good whole_text view_text validate_by whole_outline limit_ok of_bits le lt eq
stands b = refl

read : (b : List ℕ) (m : ℕ) → vertices b ≤ m → vertices b ≤ most_vertices → sheet_text_under m b ≡ sheet_text b
read b m p q = same_under m most_vertices b p q ∙ stands b

pub old_sheets : (b : List ℕ) → OldSheets b
old_sheets b =
    record {
      stands = stands b;
      read = read b;
      same = λ h. read b old_most h (omega (arith, h));
      older = over old_most b;
      larger = λ h. sym (stands b) ∙ over most_vertices b h;
    }
