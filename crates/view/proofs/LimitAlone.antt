-- What is made and judged asks for the limit in its range's test and in the segments' own calls, which answer alike.
use mathlib.Core.Path.{◌≡◌, refl, ap, ap₂}
use mathlib.Core.Bool.{Bool, true, false, not, cond}
use mathlib.Core.List.{List}
use Prim.Native.Nat.{ℕ, ◌+◌, ◌*◌, ◌≤◌}
use native.Mathlib.Omega.{arith}
use lib.Dec.{ltb}
use lib.ListN.{get_or-eq_default}
use lib.Ieee.{Float, nan, sub, add, lt}
use borrow.Author.Tests.{ltb-true, ltb-false}
use Rattle.real.specs.Root.{abs_of}
use Rattle.real.specs.Tally.{Way, plain, counting}
use Rattle.plane.specs.Grade.{Grade}
use Rattle.plane.specs.Vec.{vnear_of}
use Rattle.plane.specs.Vertex.{pos_of}
use Rattle.plane.specs.declared.vector2.Vector2.{Vector2}
use Rattle.seg.specs.LimitAlone.{BothOk, SameLine}
use Rattle.seg.proofs.LimitAlone.{split_alone, closest_alone}
use Rattle.lists.specs.View.{wrapped}
use Rattle.view.specs.Outline.{vertex_value, vertex_past_of, count_of}
use Rattle.view.specs.Segment.{near_end, near_closest_by, on_segment_by, on_outline_by, split_segment_of}
use Rattle.view.specs.Create.{end_on_segment_of, ending_of, create_of, round_from_of, new_start_of}
use Rattle.view.specs.Validation.{start_off, end_verdict, placed_by, counts_by, validate_by, mark_answer}
use Rattle.view.specs.LimitAlone.{SameLines, LimitAlone}
use Rattle.view.specs.declared.view_data.PlineViewData.{PlineViewData}

module _ (g : Grade) (limit other : Float) (s : List Float) (lines : SameLines g limit other s) where
  -- past the outline a vertex is not a number, and no line
  past_same : (k : ℕ) → count_of s ≤ k → SameLine g limit other (vertex_value s k)
  unfolding sub add abs_of lt
  past_same k h = simp (get_or-eq_default s nan {n = 3 * k + 2} (omega (arith, h)))

  same_by : (k : ℕ) (inside : Bool) → ltb k (count_of s) ≡ inside → SameLine g limit other (vertex_value s k)
  same_by k true e = lines k (ltb-true _ _ e)
  same_by k false e = past_same k (ltb-false _ _ e)

  same : (k : ℕ) → SameLine g limit other (vertex_value s k)
  same k = same_by k (ltb k (count_of s)) refl

  split_same : (k : ℕ) (p : Vector2) (eps : Float) → split_segment_of g limit s k p eps ≡ split_segment_of g other s k p eps
  split_same k p eps = split_alone g limit other (vertex_value s k) (vertex_past_of s k 1) (same k) p eps

  module _ (w : Way) where
    infixl 1 ◌>>=◌
    open w use {Step, done, ◌>>=◌}

    test_same : (k : ℕ) (p : Vector2) → on_outline_by w g limit s k p ≡ on_outline_by w g other s k p
    unfolding on_outline_by on_segment_by near_closest_by
    test_same k p =
        let from = vertex_value s k in
        let to = vertex_past_of s k 1 in
        ap (λ (step : Step Vector2). cond (near_end g from to p) (done true) (step >>= (λ closest. done (vnear_of g closest p g.on_segment))))
        (closest_alone g limit other from to (same k) w p g.on_vertex)

    placed_same : (d : PlineViewData) → placed_by w g limit s d ≡ placed_by w g other s d
    unfolding placed_by
    placed_same d =
        let first = pos_of d.updated_start in
        let last = wrapped d.start_index d.end_index_offset (count_of s) in
        ap₂ (λ (started ended : Step Bool). started >>= (λ a. cond (not a) (done (start_off first)) (ended >>= (λ b. done (end_verdict g d b (vertex_value s last))))))
        (test_same d.start_index first) (test_same last d.end_point)

    judged_same : BothOk g limit other → (d : PlineViewData) → validate_by w g limit s d ≡ validate_by w g other s d
    unfolding validate_by counts_by
    judged_same ok d = simp (ok.one, ok.two, placed_same d)

  pub limit_alone : BothOk g limit other → LimitAlone g limit other s
  unfolding create_of ending_of end_on_segment_of new_start_of round_from_of
  limit_alone ok =
      record {
        create = λ start p at first traverse eps. simp (ok.one, ok.two, split_same at p eps);
        new_start = λ closed p start eps. simp (ok.one, ok.two, split_same);
        verdict = judged_same counting ok;
        mark = λ closed d. ap (mark_answer closed s d) (judged_same plain ok d);
      }
