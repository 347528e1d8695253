-- What a view prints, case by case. A cut view never fails to list, and what is printed of its buffer is its list.
use mathlib.Core.Path.{◌≡◌, refl, sym, ap, ap₂, ◌∙◌}
use mathlib.Core.Bool.{Bool}
use mathlib.Core.List.{List, ◌++◌}
use Prim.Native.Nat.{ℕ, zero, suc, ◌+◌, ◌*◌, ◌≤◌, ◌<◌}
use native.Mathlib.Nat.{le_of_suc-le-suc, not-suc-le-zero}
use native.Mathlib.Omega.{arith}
use lib.ListN.{length, drop}
use lib.Ieee.{Float, neg}
use Rattle.real.specs.Reply.{Reply, refused, given}
use Rattle.plane.specs.Grade.{double}
use Rattle.lists.specs.Plain.{Vert, tab, flat}
use Rattle.lists.specs.View.{vertex_at_of, view_list}
use Rattle.view.specs.Outline.{count_of, src_of}
use Rattle.view.specs.Record.{view_of, vertices, needed, listed}
use Rattle.view.specs.Answers.{written, list_buffer, buffer_after}
use Rattle.view.specs.Validation.{Verdict, validate_of, MarkCase, cut, mark_of, mark_answer}
use Rattle.view.specs.declared.view_data.PlineViewData.{PlineViewData}
use Rattle.view.proofs.Cut.{cut_says, cut_clear, cut_lists as lists}
use Rattle.job.specs.Rows.{row, numbered, rows}
use Rattle.job.specs.Lines.{refused_line, view_head}
use Rattle.job.specs.Views.{mark_text, verdict_text, view_text, mark_buffer, verdict_buffer, view_buffer, list_numbers_of, Lists}
use Rattle.job.proofs.Joined.{joined_ext, numbered_joined}

module _ (closed : Bool) (s : List Float) (d : PlineViewData) (k : ℕ) (l : List Float) where
  pub refused_text : (n : ℕ) → validate_of double double.line s d ≡ refused n → view_head k ++ refused_line n ≡ view_text closed s k d
  unfolding view_text verdict_text
  refused_text n e = ap (verdict_text closed s d k) (sym e)

  pub refused_buffer : (n : ℕ) → validate_of double double.line s d ≡ refused n → l ≡ view_buffer closed s d l
  unfolding view_buffer verdict_buffer
  refused_buffer n e = ap (verdict_buffer closed s d l) (sym e)

  pub given_text : (v : Verdict) (n : ℕ) (m : MarkCase) → validate_of double double.line s d ≡ given v → n ≡ v.number → m ≡ mark_of closed s d v → mark_text s d k n m ≡ view_text closed s k d
  unfolding view_text verdict_text
  given_text v n m e p q = ap₂ (mark_text s d k) p q ∙ ap (verdict_text closed s d k) (sym e)

  pub given_buffer : (v : Verdict) (m : MarkCase) → validate_of double double.line s d ≡ given v → m ≡ mark_of closed s d v → mark_buffer s d l m ≡ view_buffer closed s d l
  unfolding view_buffer verdict_buffer
  given_buffer v m e q = ap (mark_buffer s d l) q ∙ ap (verdict_buffer closed s d l) (sym e)

-- ---- a cut view lists

pub cut_lists : (closed : Bool) (s : List Float) (d : PlineViewData) (v : Verdict) → validate_of double double.line s d ≡ given v → cut ≡ mark_of closed s d v → Lists s d list_numbers_of
cut_lists closed s d v e q =
    let mark : mark_answer closed s d (validate_of double double.line s d) ≡ given cut = ap (mark_answer closed s d) e ∙ ap given (sym q) in
    let placed = (cut_clear closed double double.line s d (cut_says closed double double.line s d mark)).placed in
    let room : needed d ≤ list_numbers_of = omega (arith, placed.few, placed.offset) in
    record { list = lists closed double double.line s d mark list_numbers_of room; few = omega (arith, placed.few, placed.offset); room = room }

-- ---- and its rows are those of the list

flat_at : (f : ℕ → Vert Float) (n k : ℕ) (r : List Float) → k < n → src_of (flat (tab f n) ++ r) k ≡ f k
unfolding flat tab
flat_at f zero k r h = absurd (not-suc-le-zero h)
flat_at f (suc n) zero r h = refl
flat_at f (suc n) (suc k) r h =
    let e₀ : 3 * suc k ≡ suc (suc (suc (3 * k))) = omega arith in
    let e₁ : 3 * suc k + 1 ≡ suc (suc (suc (3 * k + 1))) = omega arith in
    let e₂ : 3 * suc k + 2 ≡ suc (suc (suc (3 * k + 2))) = omega arith in
    rw (e₁, e₂, e₀) (flat_at (λ i. f (suc i)) n k r (le_of_suc-le-suc h))

module _ (s : List Float) (d : PlineViewData) (l : List Float) where
  pub list_written : Lists s d (length l) → list_buffer double s d l ≡ written double s d l
  unfolding list_buffer buffer_after
  list_written h = ap (λ (r : Reply ℕ). buffer_after r l (written double s d l)) h.list

  pub list_rows : rows (written double s d l) (vertices d) ≡ numbered row 0 (listed double s d)
  unfolding rows written view_list
  list_rows =
      let f = vertex_at_of neg double.zero (src_of s) (count_of s) (view_of d) in
      joined_ext _ _ (vertices d) (λ k h. ap (row k) (flat_at f (vertices d) k (drop (needed d) l) h))
      ∙ sym (numbered_joined row f (vertices d))
