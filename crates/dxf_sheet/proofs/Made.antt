-- A drawing that is read has a sound outline, which no sheet refuses, and whose sheet is the drawing's.
use Rattle.std.proofs.Common.{◌≡◌, refl, subst, sym, ap, ◌∙◌, ℕ, ◌≤◌, ◌+◌, ◌*◌, List, ◌++◌, length, take, drop, length-append, arith}
use lib.Seq.{take_at}
use borrow.Author.Tests.{le-leb}
use Rattle.std.specs.Prelude.{Float, Result, Ok, Err, IsOk}
use Rattle.real.specs.Reply.{Reply, given, refused, and_then, reply}
use Rattle.real.specs.declared.refusal.Refusal.{Refusal}
use Rattle.real.proofs.Replies.{same_given, never_given}
use Rattle.plane.specs.Range.{most_vertices}
use Rattle.record.specs.Record.{buffer_by}
use Rattle.dxf.specs.Outline.{Drawn, outline_of, outline_to, outline_buffer}
use Rattle.dxf.specs.declared.outline.DxfOutline.{DxfOutline}
use Rattle.dxf.proofs.Drawings.{drawn_sound, drawn_threes, handed_over_law}
use Rattle.outline_sheet.specs.Sheet.{sheet_bytes, sheet_size, sheet_to, sheet_buffer}
use Rattle.outline_sheet.proofs.Written.{sheet_length}
use Rattle.dxf_sheet.specs.Drawing.{drawing_sheet}

-- what is said of a drawing by its outline
pub sheet_refused : (b : List ℕ) (k : ℕ) → outline_of b ≡ refused k → drawing_sheet b ≡ refused k
unfolding drawing_sheet and_then
sheet_refused b k e = ap (λ (r : Reply Drawn). and_then r (λ (o : Drawn). given (sheet_bytes o.numbers o.closed))) e

module _ (b : List ℕ) (o : Drawn) (e : outline_of b ≡ given o) where
  sheet_given : drawing_sheet b ≡ given (sheet_bytes o.numbers o.closed)
  unfolding drawing_sheet and_then
  sheet_given = ap (λ (r : Reply Drawn). and_then r (λ (o : Drawn). given (sheet_bytes o.numbers o.closed))) e

  -- a buffer for the longest sheet has room
  taken : (m : ℕ) → 16 + 24 * most_vertices ≤ m → sheet_to o.numbers m ≡ given (sheet_size o.numbers)
  unfolding sheet_to
  taken m h =
      let s = drawn_sound b o e in
      let t = drawn_threes b o e in
      simp (s.whole, s.numbers, le-leb (sheet_size o.numbers) m (omega (arith, t.0, t.1)))

  pub unrefused : (m : ℕ) → 16 + 24 * most_vertices ≤ m → (r : Result ℕ Refusal) → reply r ≡ sheet_to o.numbers m → IsOk r
  unrefused m h (Ok n) r = refl
  unrefused m h (Err e) r = never_given (r ∙ taken m h)

  pub made : (before after : List ℕ) (n : ℕ) → 16 + 24 * most_vertices ≤ length before → given n ≡ sheet_to o.numbers (length before) → after ≡ sheet_buffer o.numbers o.closed before
      → (n ≤ length after) × (drawing_sheet b ≡ given (take n after))
  unfolding sheet_buffer buffer_by
  made before after n h r w =
      let text = sheet_bytes o.numbers o.closed in
      let q : n ≡ sheet_size o.numbers = same_given (r ∙ taken (length before) h) in
      let l : length text ≡ n = sheet_length o.numbers o.closed ∙ sym q in
      let f : after ≡ text ++ drop (sheet_size o.numbers) before = w ∙ ap (λ (x : Reply ℕ). buffer_by x text before) (taken (length before) h) in
      let g : after ≡ text ++ drop n before = f ∙ ap (λ (k : ℕ). text ++ drop k before) (sym q) in (
        omega (arith, ap length g, length-append text (drop n before)),
        sheet_given ∙ ap given (sym (ap (take n) g ∙ take_at text (drop n before) n l)),
      )

-- what the reader leaves in a buffer that held l is the drawing's outline
pub drawn_there : (b : List ℕ) (l after : List Float) (d : DxfOutline) → given d ≡ outline_to b (length l) → after ≡ outline_buffer b l
    → (outline_of b ≡ given (record { numbers = take (3 * d.vertices) after; closed = d.closed })) × (3 * d.vertices ≤ length after)
drawn_there b l after d e w =
    subst (λ (x : List Float). (outline_of b ≡ given (record { numbers = take (3 * d.vertices) x; closed = d.closed })) × (3 * d.vertices ≤ length x)) (sym w) (handed_over_law b l d (sym e))
