-- The parts of a sheet's text, in the order in which the program writes them, joined, are the whole text.
use mathlib.Core.Path.{◌≡◌, sym, ap, ap₂, ◌∙◌}
use mathlib.Core.List.{List, ◌++◌, append_assoc}
use Prim.Native.Nat.{ℕ, suc, ◌+◌, ◌-◌}
use native.Mathlib.Numerals.{add-two}
use native.Mathlib.Omega.{arith}
use lib.ListN.{take}
use lib.Ieee.{Float}
use Rattle.real.specs.Refusal.{bad_number, bad_sheet, bad_record}
use Rattle.real.specs.Reply.{refused, given}
use Rattle.job.specs.declared.sheet.Opened.{Opened}
use Rattle.job.specs.Header.{header_value, header_good, closed}
use Rattle.record.specs.Record.{record_value}
use Rattle.job.specs.Rows.{numbered, joined}
use Rattle.job.specs.Sheet.{views, outline_of, record_at_of, records_of, records_ok, vertices_ok, sheet_of, open_of, open_buffer}
use Rattle.job.specs.Lines.{refused_line}
use Rattle.job.specs.Views.{view_text}
use Rattle.job.specs.Parts.{box_line, whole_text, answer_text, sheet_text, box_part, front_part, view_part, part_text}
use Rattle.job.proofs.Joined.{joined_ext, joined_first, numbered_joined}
use Rattle.real.proofs.Replies.{never_given, refused_alike}
use Rattle.job.proofs.Sheets.{Accepted, accepted_rest, opened_accepted, opened_is, opened_outline}
use Rattle.job.proofs.Parting.{front_part_law, view_part_law}

module _ (b : List ℕ) (a : Accepted b) where
  abbrev part : ℕ → List ℕ
  part = part_text b (outline_of b)

  abbrev view : ℕ → List ℕ
  view k = view_text (closed (header_value b)) (outline_of b) k (record_value (record_at_of b k))

  box_is : box_part b ≡ box_line b
  unfolding box_part
  box_is = simp a.vertices

  views_are : joined (λ k. part (suc (suc k))) (views b) ≡ numbered (view_text (closed (header_value b)) (outline_of b)) 0 (records_of b)
  unfolding records_of view_part
  views_are =
      joined_ext _ view (views b) (λ k h.
      let e : suc (suc k) - 2 ≡ k = omega arith in
      sym (view_part_law b (outline_of b) (outline_of b) (suc (suc k)) a.header (omega arith) (omega arith)).0 ∙ ap view e)
      ∙ sym (numbered_joined (view_text (closed (header_value b)) (outline_of b)) (λ k. record_value (record_at_of b k)) (views b))

  whole : joined part (views b + 2) ≡ whole_text b
  unfolding whole_text front_part
  whole =
      ap (joined part) (add-two (views b)) ∙ joined_first part (suc (views b))
      ∙ ap (λ (t : List ℕ). part 0 ++ t) (joined_first (λ k. part (suc k)) (views b))
      ∙ sym (append_assoc (part 0) (part 1) (joined (λ k. part (suc (suc k))) (views b)))
      ∙ ap₂ (λ (t u : List ℕ). t ++ u)
      (ap₂ (λ (t u : List ℕ). t ++ u) (sym (front_part_law b (outline_of b) (outline_of b) 0 a.header (omega arith)).0) (sym (front_part_law b (outline_of b) (outline_of b) 1 a.header (omega arith)).0 ∙ box_is))
      views_are

-- a sheet that opens: its parts, over the outline that opening it left in any buffer l
pub parts_whole : (b : List ℕ) (l : List Float) (o : Opened) → open_of b ≡ given o → joined (part_text b (take o.numbers (open_buffer b l))) o.parts ≡ sheet_text b
unfolding sheet_text
parts_whole b l o e =
    let a = opened_accepted b o e in
    ap₂ (λ (s : List Float) (p : Opened). joined (part_text b s) p.parts) (opened_outline b o e l) (opened_is b o e)
    ∙ whole b a
    ∙ sym (ap answer_text (accepted_rest b (given (whole_text b)) a))

-- a sheet that is refused: all that it prints
pub refused_whole : (b : List ℕ) (n : ℕ) → open_of b ≡ refused n → refused_line n ≡ sheet_text b
unfolding sheet_text open_of sheet_of
refused_whole b n e =
    sym (ap answer_text (refused_alike (header_good b) n bad_sheet _ _ (refused_alike (records_ok b) n bad_record _ _ (refused_alike (vertices_ok b) n bad_number _ _ (λ p. never_given (sym p)))) e))
