-- What a mark of cut says of an open outline's segments: start plus offset stays before the last vertex, so no segment of the list wraps; reversal keeps both numbers, and a trim's sum is at most the old one.
use mathlib.Core.Path.{◌≡◌, refl, sym, ap, ◌∙◌, subst}
use mathlib.Core.Bool.{Bool, true, false, cond}
use mathlib.Core.List.{List, [], ◌∷◌}
use Prim.Native.Nat.{ℕ, ◌+◌, ◌-◌, ◌%◌}
use native.Mathlib.Nat.{mod-eq_of_lt}
use native.Mathlib.Omega.{arith}
use lib.Dec.{ltb}
use lib.Ieee.{Float, neg}
use borrow.Author.Tests.{ltb-true}
use Rattle.real.specs.Refusal.{bad_trim}
use Rattle.real.specs.Reply.{Reply, refused, given}
use Rattle.real.proofs.Replies.{same_given, check_passed, and_both}
use Rattle.plane.specs.Grade.{Grade}
use Rattle.plane.specs.Vertex.{pos_of}
use Rattle.plane.specs.declared.pline_vertex.PlineVertex.{PlineVertex}
use Rattle.lists.specs.Plain.{Step, turn, trim}
use Rattle.lists.specs.View.{wrapped, forward, backward, vertex_at_of, turn_view}
use Rattle.lists.proofs.Views.{at_first, at_past, back_first, back_past}
use Rattle.lists.proofs.Along.{runs_along, before_last, stays_before, trim_before}
use Rattle.view.specs.Outline.{count_of, src_of, of_vert}
use Rattle.view.specs.Record.{view_of, turned_of, trimmed_of, vertices, record_ok}
use Rattle.view.specs.Segment.{on_outline}
use Rattle.view.specs.Validation.{Verdict, cut, valid, bulges_match_of, end_verdict, placed_by, counts_by, validate_by, validate_of, across_gap, mark_of, mark_answer}
use Rattle.view.specs.Answers.{reverse_of, trim_of}
use Rattle.view.specs.Rows.{after, step, row}
use Rattle.view.specs.Cut.{Cut}
use Rattle.view.specs.OpenOutline.{marked, BeforeLast, UsesOpen, OpenOutline}
use Rattle.view.specs.declared.view_data.PlineViewData.{PlineViewData}
use Rattle.view.proofs.Checks.{evened, even_rest}
use Rattle.view.proofs.Cut.{cut_says, before_gap, not_across}

module _ (g : Grade) (limit : Float) (s : List Float) where
  module _ (d : PlineViewData) where
    -- where the list begins and ends, as if its direction were b
    module _ (c : Cut false g limit s d) where
      abbrev at : Bool → ℕ → PlineVertex
      at b k = of_vert (cond b (backward neg g.zero (src_of s) (count_of s) (view_of d) k) (forward g.zero (src_of s) (count_of s) (view_of d) k))

      abbrev segment : Bool → ℕ → ℕ
      segment b k = wrapped d.start_index (cond b (d.end_index_offset - k) k) (count_of s)

      start_stays : (k : ℕ) → k ≡ 0 → (d.start_index + k) % count_of s ≡ d.start_index
      start_stays k e = let q : d.start_index + k ≡ d.start_index = omega arith in rw q (mod-eq_of_lt c.start)

      begins_on : (b : Bool) → on_outline g limit s (segment b 0) (pos_of (at b 0)) ≡ true
      begins_on false = rw (start_stays 0 refl, at_first g.zero (src_of s) (count_of s) (view_of d)) c.on_start
      begins_on true = let e : d.end_index_offset - 0 ≡ d.end_index_offset = omega arith in rw (e, back_first neg g.zero (src_of s) (count_of s) (view_of d)) c.on_end

      ends_on : (b : Bool) → on_outline g limit s (segment b d.end_index_offset) (pos_of (at b (d.end_index_offset + 1))) ≡ true
      ends_on false = rw (at_past g.zero (src_of s) (count_of s) (view_of d)) c.on_end
      ends_on true = rw (start_stays (d.end_index_offset - d.end_index_offset) (omega arith), back_past neg g.zero (src_of s) (count_of s) (view_of d) (d.end_index_offset + 1) (omega arith)) c.on_start

    uses : marked g limit s false d ≡ given cut → UsesOpen g limit s d
    unfolding vertex_at_of
    uses e =
        let c = cut_says false g limit s d e in
        record {
          runs = runs_along neg g.zero (src_of s) (count_of s) (view_of d);
          before = before_last (count_of s) (view_of d) (c.gap refl);
          first = begins_on c d.inverted_direction;
          last = ends_on c d.inverted_direction;
        }

    -- on a closed outline a valid view is cut, so it has its start in the outline
    only : validate_of g limit s d ≡ given valid → BeforeLast g limit s d → marked g limit s false d ≡ given cut
    unfolding mark_of across_gap
    only e f =
        let c = cut_says true g limit s d (ap (mark_answer true s d) e) in
        ap (mark_answer false s d) e ∙ simp (not_across s d false (λ o. stays_before (count_of s) (view_of d) c.start f))

    -- neither the verdict nor the gap looks at the direction
    same_verdict : validate_of g limit s (turned_of d) ≡ validate_of g limit s d
    unfolding turn_view validate_by counts_by placed_by end_verdict bulges_match_of record_ok
    same_verdict = refl

    same_mark : (closed : Bool) (r : Reply Verdict) → mark_answer closed s (turned_of d) r ≡ mark_answer closed s d r
    unfolding turn_view mark_of across_gap
    same_mark closed (refused n) = refl
    same_mark closed (given v) = refl

    alike : (closed : Bool) → marked g limit s closed (turned_of d) ≡ marked g limit s closed d
    alike closed = ap (mark_answer closed s (turned_of d)) same_verdict ∙ same_mark closed (validate_of g limit s d)

    -- one step
    still : (closed : Bool) → across_gap closed s d ≡ false → across_gap closed s (turned_of d) ≡ false
    unfolding across_gap turn_view
    still closed h = h

    turned : (closed : Bool) → across_gap closed s d ≡ false → (r : Reply PlineViewData) → reverse_of g s d ≡ r → across_gap closed s (after d r) ≡ false
    unfolding reverse_of
    turned closed h (refused n) e = h
    turned closed h (given x) e = subst (λ (x : PlineViewData). across_gap closed s x ≡ false) (sym (same_given (sym e ∙ even_rest g s d _ (evened g s d _ (sym e))))) (still closed h)

    trimmed : (closed : Bool) (i j : ℕ) → across_gap closed s d ≡ false → (r : Reply PlineViewData) → trim_of g s d i j ≡ r → across_gap closed s (after d r) ≡ false
    unfolding trim_of
    trimmed closed i j h (refused n) e = h
    trimmed closed i j h (given x) e =
        let c = check_passed bad_trim _ (sym e ∙ even_rest g s d _ (evened g s d _ (sym e))) in
        let t = and_both (ltb i j) (ltb j (vertices d)) c.0 in
        subst (λ (x : PlineViewData). across_gap closed s x ≡ false) (sym (same_given c.1))
        (not_across s (trimmed_of g s d i j) closed (λ o. trim_before g.zero (src_of s) (count_of s) (view_of d) (before_gap s d closed h o) i j (ltb-true i j t.0) (ltb-true j (vertices d) t.1)))

  stepped : (closed : Bool) (t : Step) (d : PlineViewData) → across_gap closed s d ≡ false → across_gap closed s (step g s t d) ≡ false
  unfolding step
  stepped closed turn d h = turned d closed h _ refl
  stepped closed (trim i j) d h = trimmed d closed i j h _ refl

  rows : (closed : Bool) (ts : List Step) (d : PlineViewData) → across_gap closed s d ≡ false → across_gap closed s (row g s ts d) ≡ false
  unfolding row
  rows closed [] d h = h
  rows closed (t ∷ ts) d h = rows closed ts (step g s t d) (stepped closed t d h)

  pub open_outline : (d : PlineViewData) → OpenOutline g limit s d
  open_outline d = record { uses = uses d; only = only d; alike = alike d; rows = λ closed ts h. rows closed ts d h }
