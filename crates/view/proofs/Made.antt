-- What `create` and `from_new_start` answer passes the checks, and has equal bulges where its offset is 0: only an end on top of the next vertex has offset 0, and it takes the start's bulge. Its cut number is 0.
use mathlib.Core.Path.{◌≡◌, refl, sym, ap, subst}
use mathlib.Core.Bool.{Bool, true, false, cond}
use mathlib.Core.List.{List, [], ◌∷◌}
use Prim.Native.Nat.{ℕ, ◌+◌, ◌-◌, ◌<◌, ◌≤◌}
use native.Mathlib.Nat.{mod-lt}
use native.Mathlib.Omega.{arith}
use lib.Dec.{ltb, eqb}
use lib.Ieee.{Float, neg, add, sub, mul, of_bits, of_fields, odd, le, lt, eq}
use borrow.Author.Tests.{ltb-true, leb-true, eq-eqb}
use Rattle.real.specs.Refusal.{bad_number, bad_tolerance, bad_outline, bad_index, bad_offset, not_closed}
use Rattle.real.specs.Reply.{given}
use Rattle.real.specs.Root.{abs_of}
use Rattle.real.proofs.Replies.{same_given, check_passed, and_both}
use Rattle.plane.specs.Grade.{Grade, double}
use Rattle.plane.specs.Vec.{vnear_of}
use Rattle.plane.specs.Vertex.{vertex_at_of, pos_of}
use Rattle.plane.specs.Range.{whole_outline, tol_ok, limit_ok, coord_ok, bulge_ok, point_ok, vertex_ok, seg_ok}
use Rattle.plane.specs.declared.vector2.Vector2.{Vector2}
use Rattle.plane.specs.declared.pline_vertex.PlineVertex.{PlineVertex}
use Rattle.seg.specs.Cases.{half, minus_half, vec}
use Rattle.seg.proofs.HalfCircle.{Sound, double_sound, bulge_in, stays_in_range, InRange}
use Rattle.lists.specs.Plain.{tab, turn, turn_at, turn_list, step_list, row_list}
use Rattle.lists.specs.View.{forward, view_list, vertex_at_of as positionAt}
use Rattle.view.specs.Outline.{vertex_value, count_of, viewable, all, numbers_ok}
use Rattle.view.specs.Record.{record_ok}
use Rattle.view.specs.Segment.{split_segment_of}
use Rattle.view.specs.Rows.{row}
use Rattle.view.specs.Demand3.{Lists, Made, MadeDemand3}
use Rattle.view.specs.Cases.{vert, Q, arc}
use Rattle.view.specs.Create.{next_of, vertex_before, ending, forward_data_of, end_on_top_of, end_on_segment_of, ending_of, ended_at_of, create_of, moved_on, round_ending_of, round_from_of, new_start_of}
use Rattle.view.specs.declared.view_data.PlineViewData.{PlineViewData}
use Rattle.view.specs.declared.ending.Ending.{Ending}
use Rattle.view.proofs.Checks.{viewable_in, vertex_in}
use Rattle.view.proofs.Demand3.{Fine, fine_demand3}
open double use {zero, four}

-- either way of a test
either : {A : Type 0} (P : A → Type 0) (t : Bool) {x y : A} → (t ≡ true → P x) → (t ≡ false → P y) → P (cond t x y)
either P true p q = p refl
either P false p q = q refl

-- what both calls have checked of their outline, point and tolerance
record Asked (g : Grade) (s : List Float) (p : Vector2) (eps : Float) : Type 0 where
  outline : viewable s ≡ true
  numbers : numbers_ok g s ≡ true
  point : point_ok g p ≡ true
  tolerance : tol_ok g eps ≡ true

-- how a view from a vertex with bulge b ends
record Ended (g : Grade) (b : Float) (e : Ending) : Type 0 where
  bulge_ok_law : bulge_ok g e.bulge ≡ true
  even : e.offset ≡ 0 → b ≡ e.bulge

-- a fine record without a cut number
pub record Fresh (g : Grade) (s : List Float) (d : PlineViewData) : Type 0 where
  pub fine : Fine g s d
  pub number : d.cut_number ≡ 0

module _ (g : Grade) (s : List Float) (p : Vector2) (eps : Float) (a : Asked g s p eps) where
  size : 2 ≤ count_of s
  size = (viewable_in s a.outline).0

  next_in : (k : ℕ) → next_of s k < count_of s
  next_in k = mod-lt (k + 1) (omega (arith, size))

  before_in : (k : ℕ) → bulge_ok g (vertex_before s k).bulge ≡ true
  before_in k = bulge_in g _ (vertex_in g s a.numbers _ (mod-lt (k + (count_of s - 1)) (omega (arith, size))))

  -- a forward record whose parts are in range
  made : (start : ℕ) (first : PlineVertex) (e : Ending) → start < count_of s → vertex_ok g first ≡ true → e.offset ≤ count_of s → Ended g first.bulge e → Fresh g s (forward_data_of start first p e)
  unfolding record_ok
  made start first e h v l x =
      let n = viewable_in s a.outline in
      record {
        fine =
            record {
              clear = record { outline = a.outline; numbers = a.numbers; record_in = simp (v, x.bulge_ok_law, a.point); placed = record { few = n.1; two = n.0; start = h; offset = l } };
              even = x.even;
            };
        number = refl;
      }

  -- `ended_at_of` gives such a record, or nothing
  ended_fresh : (start : ℕ) (first : PlineVertex) (e : Ending) (d : PlineViewData) → start < count_of s → vertex_ok g first ≡ true → Ended g first.bulge e → given d ≡ ended_at_of s start p first e → Fresh g s d
  unfolding ended_at_of
  ended_fresh start first e d h v x q =
      let l = check_passed bad_offset (given (forward_data_of start first p e)) q in
      let same : forward_data_of start first p e ≡ d = same_given (sym l.1) in
      subst (Fresh g s) same (made start first e h v (leb-true _ _ l.0) x)

  moved_in : (k : ℕ) → k < count_of s → moved_on g s p k eps < count_of s
  unfolding moved_on
  moved_in k h = either (λ (n : ℕ). n < count_of s) (vnear_of g (pos_of (vertex_value s (next_of s k))) p eps) (λ _. next_in k) (λ _. h)

  module _ (sound : Sound g) (limit : Float) where
    split_in : (k : ℕ) → k < count_of s → InRange g (split_segment_of g limit s k p eps)
    unfolding seg_ok
    split_in k h = stays_in_range g sound limit (vertex_value s k) (vertex_value s (next_of s k)) p eps (simp (vertex_in g s a.numbers k h, vertex_in g s a.numbers (next_of s k) (next_in k))) a.point a.tolerance

    -- how a view that is created ends
    ends : (at : ℕ) (b : Float) (traverse : ℕ) → at < count_of s → bulge_ok g b ≡ true → 0 < traverse → Ended g b (ending_of g limit s p at b traverse eps)
    unfolding ending_of end_on_top_of end_on_segment_of
    ends at b traverse h ok t =
        either (Ended g b) (vnear_of g p (pos_of (vertex_value s at)) eps)
        (λ _. record { bulge_ok_law = either (λ (x : Float). bulge_ok g x ≡ true) (eqb (traverse - 1) 0) (λ _. ok) (λ _. before_in at); even = λ z. sym (ap (λ (f : Bool). cond f b (vertex_before s at).bulge) (eq-eqb (traverse - 1) 0 z)) })
        (λ _. record { bulge_ok_law = bulge_in g _ (split_in at h).0; even = λ z. absurd (omega arith) })

    -- the view round the whole outline from segment k
    round_fresh : (k : ℕ) → k < count_of s → Fresh g s (round_from_of g limit s p k eps)
    unfolding round_from_of round_ending_of
    round_fresh k h =
        let two = size in
        let split = split_segment_of g limit s k p eps in
        either (λ (e : Ending). Fresh g s (forward_data_of k split.split_vertex p e)) (vnear_of g (pos_of (vertex_value s k)) p eps)
        (λ _. made k split.split_vertex (ending (count_of s - 1) (vertex_before s k).bulge) h (split_in k h).1 (omega arith) (record { bulge_ok_law = before_in k; even = λ z. absurd (omega arith) }))
        (λ _. made k split.split_vertex (ending (count_of s) split.updated_start.bulge) h (split_in k h).1 (omega arith) (record { bulge_ok_law = bulge_in g _ (split_in k h).0; even = λ z. absurd (omega arith) }))

module _ (g : Grade) (sound : Sound g) (limit : Float) (s : List Float) (p : Vector2) (eps : Float) (d : PlineViewData) where
  pub create_fresh : (start at : ℕ) (first : PlineVertex) (traverse : ℕ) → create_of g limit s start p at first traverse eps ≡ given d → Fresh g s d
  unfolding create_of
  create_fresh start at first traverse q =
      let o = check_passed bad_outline _ (sym q) in
      let n = check_passed bad_number _ o.1 in
      let n₁ = and_both (numbers_ok g s) _ n.0 in
      let n₂ = and_both (point_ok g p) _ n₁.1 in
      let t = check_passed bad_tolerance _ n.1 in
      let c = check_passed bad_offset _ t.1 in
      let i = check_passed bad_index _ c.1 in
      let b = and_both (ltb start (count_of s)) _ i.0 in
      let a : Asked g s p eps = record { outline = o.0; numbers = n₁.0; point = n₂.0; tolerance = (and_both (tol_ok g eps) _ t.0).0 } in
      ended_fresh g s p eps a start first _ d (ltb-true _ _ b.0) n₂.1
      (ends g s p eps a sound limit at first.bulge traverse (ltb-true _ _ b.1) (bulge_in g first n₂.1) (ltb-true _ _ c.0)) i.1

  pub new_start_fresh : (closed : Bool) (start : ℕ) → new_start_of g limit s closed p start eps ≡ given d → Fresh g s d
  unfolding new_start_of
  new_start_fresh closed start q =
      let o = check_passed bad_outline _ (sym q) in
      let n = check_passed bad_number _ o.1 in
      let n₁ = and_both (numbers_ok g s) _ n.0 in
      let t = check_passed bad_tolerance _ n.1 in
      let c = check_passed {b = closed} not_closed _ t.1 in
      let k = moved_on g s p start eps in
      let i = check_passed bad_index (given (round_from_of g limit s p k eps)) c.1 in
      let a : Asked g s p eps = record { outline = o.0; numbers = n₁.0; point = n₁.1; tolerance = (and_both (tol_ok g eps) _ t.0).0 } in
      let same : round_from_of g limit s p k eps ≡ d = same_given (sym i.1) in
      subst (Fresh g s) same (round_fresh g s p eps a sound limit k (moved_in g s p eps a start (ltb-true _ _ i.0)))

made_fresh : (g : Grade) (s : List Float) (d : PlineViewData) → Fresh g s d → Made g s d
made_fresh g s d w = record { demand3 = fine_demand3 g s d w.fine; number = w.number }

pub made_demand3 : (g : Grade) → Sound g → MadeDemand3 g
made_demand3 g sound =
    record {
      created = λ limit s start p at first traverse eps d q. made_fresh g s d (create_fresh g sound limit s p eps d start at first traverse q);
      started = λ limit s closed p start eps d q. made_fresh g s d (new_start_fresh g sound limit s p eps d closed start q);
    }

-- at f64
pub made_demand3_f64 : MadeDemand3 double
made_demand3_f64 = made_demand3 double double_sound

-- offset 0 on Q, from vertex 1 to the next one: the last bulge is the start's, not that of the vertex before the end
pub arc_made : create_of double double.line Q 1 (vec four four) 2 (vertex_at_of four zero half) 1 double.fuzz ≡ given arc
unfolding Q arc create_of ending_of end_on_top_of ended_at_of viewable whole_outline all numbers_ok coord_ok bulge_ok point_ok vertex_ok tol_ok limit_ok abs_of add sub mul le lt eq of_bits of_fields odd
arc_made = refl

-- and turned round it lists the arc from its end
pub arc_turned : Lists double Q (row double Q (turn ∷ []) arc) (vert four four minus_half ∷ vert four zero zero ∷ [])
unfolding Q arc row_list step_list turn_list turn_at view_list positionAt forward tab neg of_bits
arc_turned = ((made_demand3_f64.created double.line Q 1 (vec four four) 2 _ 1 double.fuzz arc arc_made).demand3.rows (turn ∷ [])).lists
