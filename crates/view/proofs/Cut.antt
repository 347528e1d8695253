-- A view is cut exactly when its record, its outline, its two ends and, on an open outline, its last segment are as `Cut` says; and a cut view lists.
use mathlib.Core.Path.{◌≡◌, refl, sym, ◌∙◌}
use mathlib.Core.Bool.{Bool, true, false, cond, not, ◌&&◌}
use mathlib.Core.List.{List}
use Prim.Native.Nat.{ℕ, ◌+◌, ◌-◌, ◌<◌, ◌≤◌}
use native.Mathlib.Omega.{arith}
use lib.Dec.{ltb}
use lib.ListN.{length}
use lib.Ieee.{Float}
use borrow.Author.Tests.{lt-ltb, le-ltb, ltb-true, ltb-false, le-leb, leb-false, lt-leb, not-false}
use Rattle.real.specs.Refusal.{bad_number, bad_tolerance, bad_outline, bad_index}
use Rattle.real.specs.Reply.{Reply, given, check}
use Rattle.real.specs.Tally.{plain}
use Rattle.real.proofs.Replies.{and_both}
use Rattle.plane.specs.Grade.{Grade}
use Rattle.plane.specs.Vec.{vnear_of}
use Rattle.plane.specs.Vertex.{pos_of}
use Rattle.plane.specs.Range.{whole_outline, limit_ok}
use Rattle.lists.specs.View.{wrapped}
use Rattle.view.specs.Outline.{vertex_value, count_of, numbers_ok, viewable}
use Rattle.view.specs.Record.{record_ok, needed, vertices}
use Rattle.view.specs.Segment.{on_outline}
use Rattle.view.specs.Validation.{Verdict, cut, hold, no_segments, offset_out, start_off, end_off, end_on_vertex, bulges_differ, valid, bulges_match_of, end_verdict, placed_by, counts_by, validate_by, validate_of, across_gap, mark_of, mark_answer}
use Rattle.view.specs.Answers.{list_of}
use Rattle.view.specs.Cut.{Cut}
use Rattle.view.specs.declared.view_data.PlineViewData.{PlineViewData}
use Rattle.view.proofs.Checks.{Checked, checked_rest, few_of_whole}

-- what it is not to go across the gap
module _ (s : List Float) (d : PlineViewData) where
  pub before_gap : (closed : Bool) → across_gap closed s d ≡ false → closed ≡ false → d.start_index + d.end_index_offset < count_of s - 1
  unfolding across_gap
  before_gap true e o = let z : ◌≡◌ {A = ℕ} 0 1 = cc in absurd (omega arith)
  before_gap false e o = leb-false (count_of s - 1) _ e

  pub not_across : (closed : Bool) → (closed ≡ false → d.start_index + d.end_index_offset < count_of s - 1) → across_gap closed s d ≡ false
  unfolding across_gap
  not_across true h = refl
  not_across false h = lt-leb (count_of s - 1) _ (h refl)

module _ (closed : Bool) (g : Grade) (limit : Float) (s : List Float) (d : PlineViewData) where
  -- a link of the chain that is passed on the way to cut: a refusal, a verdict that is held, and one among the last verdicts
  past_check : (b : Bool) (n : ℕ) (rest : Reply Verdict) → mark_answer closed s d (check b n rest) ≡ given cut → (b ≡ true) × (mark_answer closed s d rest ≡ given cut)
  past_check true n rest e = (refl, e)
  past_check false n rest e = let z : ◌≡◌ {A = ℕ} 0 1 = cc in absurd (omega arith)

  held_not_cut : {A : Type 0} → hold ≡ cut → A
  held_not_cut e = let z : ◌≡◌ {A = ℕ} 0 1 = cc in absurd (omega arith)

  past_given : (t : Bool) (v : Verdict) (rest : Reply Verdict) → mark_of closed s d v ≡ hold → mark_answer closed s d (cond t (given v) rest) ≡ given cut → (t ≡ false) × (mark_answer closed s d rest ≡ given cut)
  past_given true v rest h e = let q : mark_of closed s d v ≡ cut = cc in held_not_cut (sym h ∙ q)
  past_given false v rest h e = (refl, e)

  past_verdict : (t : Bool) (v rest : Verdict) → mark_of closed s d v ≡ hold → mark_of closed s d (cond t v rest) ≡ cut → (t ≡ false) × (mark_of closed s d rest ≡ cut)
  past_verdict true v rest h e = held_not_cut (sym h ∙ e)
  past_verdict false v rest h e = (refl, e)

  past_gap : (t : Bool) → cond t hold cut ≡ cut → t ≡ false
  past_gap true e = held_not_cut e
  past_gap false e = refl

  abbrev last : ℕ
  last = wrapped d.start_index d.end_index_offset (count_of s)

  pub cut_says : mark_answer closed s d (validate_of g limit s d) ≡ given cut → Cut closed g limit s d
  unfolding validate_by counts_by placed_by end_verdict mark_of
  cut_says e =
      let a = past_check (whole_outline (length s)) bad_outline _ e in
      let b = past_check (numbers_ok g s && record_ok g d) bad_number _ a.1 in
      let n = and_both (numbers_ok g s) (record_ok g d) b.0 in
      let l = past_check (limit_ok g limit) bad_tolerance _ b.1 in
      let two = past_given (ltb (count_of s) 2) no_segments _ refl l.1 in
      let off = past_given (ltb (count_of s) d.end_index_offset) (offset_out d.end_index_offset (count_of s)) _ refl two.1 in
      let st = past_check (ltb d.start_index (count_of s)) bad_index _ off.1 in
      let given_cut : mark_of closed s d (placed_by plain g limit s d) ≡ cut = cc st.1 in
      let v3 = past_verdict (not (on_outline g limit s d.start_index (pos_of d.updated_start))) (start_off (pos_of d.updated_start)) _ refl given_cut in
      let v4 = past_verdict (not (on_outline g limit s last d.end_point)) (end_off d.end_point) _ refl v3.1 in
      let v5 = past_verdict (vnear_of g d.end_point (pos_of (vertex_value s last)) g.on_vertex) (end_on_vertex d.end_point (vertex_value s last)) _ refl v4.1 in
      let v6 = past_verdict (not (bulges_match_of g d)) (bulges_differ d.updated_end_bulge d.updated_start.bulge) valid refl v5.1 in
      record {
        whole = a.0;
        outline = n.0;
        numbers = n.1;
        limited = l.0;
        two = ltb-false _ _ two.0;
        offset = ltb-false _ _ off.0;
        start = ltb-true _ _ st.0;
        on_start = not-false _ v3.0;
        on_end = not-false _ v4.0;
        apart = v5.0;
        bulges = not-false _ v6.0;
        gap = before_gap s d closed (past_gap _ v6.1);
      }

  pub cut_when : Cut closed g limit s d → mark_answer closed s d (validate_of g limit s d) ≡ given cut
  unfolding validate_by counts_by placed_by end_verdict mark_of
  cut_when c =
      simp (c.whole, c.outline, c.numbers, c.limited, le-ltb (count_of s) 2 c.two, le-ltb (count_of s) d.end_index_offset c.offset, lt-ltb d.start_index (count_of s) c.start, c.on_start, c.on_end, c.apart, c.bulges, not_across s d closed c.gap)

  -- a cut view passes the checks of the other view calls
  pub cut_clear : Cut closed g limit s d → Checked g s d
  unfolding viewable
  cut_clear c =
      record {
        outline = simp (c.whole, le-leb 2 (count_of s) c.two);
        numbers = c.outline;
        record_in = c.numbers;
        placed = record { few = few_of_whole s c.whole; two = c.two; start = c.start; offset = c.offset };
      }

  -- so it lists wherever there is room
  pub cut_lists : mark_answer closed s d (validate_of g limit s d) ≡ given cut → (m : ℕ) → needed d ≤ m → list_of g s d m ≡ given (vertices d)
  unfolding list_of
  cut_lists e m h = checked_rest g s d _ (cut_clear (cut_says e)) ∙ simp (le-leb (needed d) m h)
