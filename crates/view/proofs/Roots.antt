-- Validation's roots: read without them its verdict is the same; a test takes at most one, none of a line or near an end, and validation makes two tests at most.
use mathlib.Core.Path.{◌≡◌, refl, sym, ap, subst, ◌∙◌}
use mathlib.Core.Bool.{Bool, true, false, cond, not, ◌&&◌, ◌||◌, false≢true, true≢false}
use mathlib.Core.List.{List}
use Prim.Native.Nat.{ℕ, ◌+◌, ◌≤◌}
use native.Mathlib.Nat.{add-zero}
use native.Mathlib.Omega.{arith}
use lib.Dec.{ltb, eqb}
use lib.ListN.{length}
use lib.Ieee.{Float}
use Rattle.std.specs.Prelude.{Result}
use Rattle.real.specs.Reply.{Reply, refused, given, reply_by}
use Rattle.real.specs.declared.refusal.Refusal.{Refusal}
use Rattle.real.specs.declared.square_root.Rooted.{Rooted}
use Rattle.real.specs.Tally.{Tally, tally, plain, counting}
use Rattle.plane.specs.Grade.{Grade}
use Rattle.plane.specs.Range.{whole_outline, limit_ok}
use Rattle.plane.specs.Vec.{vnear_of}
use Rattle.plane.specs.Vertex.{pos_of, line_of}
use Rattle.plane.specs.declared.vector2.Vector2.{Vector2}
use Rattle.plane.specs.declared.pline_vertex.PlineVertex.{PlineVertex}
use Rattle.seg.specs.Arc.{center_of, sweeps_over_of}
use Rattle.seg.proofs.Uncounted.{chosen_value, closest_value}
use Rattle.seg.proofs.Roots.{chosen_roots, closest_roots}
use Rattle.lists.specs.View.{wrapped}
use Rattle.view.specs.Outline.{vertex_value, vertex_past_of, count_of, numbers_ok}
use Rattle.view.specs.Record.{record_ok}
use Rattle.view.specs.Segment.{near_end, near_closest_by, on_segment_by, on_outline_by}
use Rattle.view.specs.Validation.{Verdict, start_off, end_off, end_on_vertex, bulges_differ, valid, bulges_match_of, end_verdict, placed_by, counts_by, validate_by, validate_of, validate_counted, judged_tally}
use Rattle.view.specs.Roots.{uncounted, test_roots, TestRoots, RootsTaken}
use Rattle.view.specs.declared.validation.ViewDataValidation.{ViewDataValidation}
use Rattle.view.specs.declared.view_data.PlineViewData.{PlineViewData}

uncounted_chosen : {A : Type 0} (b : Bool) (x y : Reply (Tally A)) → uncounted (cond b x y) ≡ cond b (uncounted x) (uncounted y)
uncounted_chosen true x y = refl
uncounted_chosen false x y = refl

-- where one of the four tests decides
few : (a b c e : Bool) → cond a 0 (cond b 0 (cond c 0 (cond e 1 0))) ≤ 1
few true b c e = omega arith
few false true c e = omega arith
few false false true e = omega arith
few false false false true = omega arith
few false false false false = omega arith

none_of : (a b : Bool) (n : ℕ) → (b || a) ≡ true → cond a 0 (cond b 0 n) ≡ 0
none_of true b n h = refl
none_of false true n h = refl
none_of false false n h = absurd (false≢true h)

-- what a verdict takes whose two tests take m and n
abbrev Takes : ℕ → ℕ → Tally Verdict → Type 0
Takes m n t = t.roots ≡ cond (ltb t.value.number 3) 0 (cond (eqb t.value.number 3) m (m + n))

takes_few : (x y : Bool) (m n : ℕ) → cond x 0 (cond y m (m + n)) ≤ m + n
takes_few true y m n = omega arith
takes_few false true m n = omega arith
takes_few false false m n = omega arith

-- of a reply, if it is given
abbrev IfGiven : (Tally Verdict → Type 0) → Reply (Tally Verdict) → Type 0
IfGiven P (refused n) = Unit {0}
IfGiven P (given t) = P t

given_chosen : (P : Tally Verdict → Type 0) (b : Bool) (x y : Reply (Tally Verdict)) → IfGiven P x → IfGiven P y → IfGiven P (cond b x y)
given_chosen P true x y p q = p
given_chosen P false x y p q = q

-- a verdict past 3
abbrev Later : Verdict → Type 0
Later v = (m n : ℕ) → cond (ltb v.number 3) 0 (cond (eqb v.number 3) m (m + n)) ≡ m + n

all_later : (a b c : Bool) (p q : Vector2) (v : PlineVertex) (x y : Float) → Later (cond a (end_off p) (cond b (end_on_vertex q v) (cond c (bulges_differ x y) valid)))
all_later true b c p q v x y m n = refl
all_later false true c p q v x y m n = refl
all_later false false true p q v x y m n = refl
all_later false false false p q v x y m n = refl

-- what a test of a flag's negation says of the flag
pub denied : {t : Bool} → not t ≡ true → t ≡ false
denied {t = true} h = sym h
denied {t = false} h = refl

pub granted : {t : Bool} → not t ≡ false → t ≡ true
granted {t = true} h = refl
granted {t = false} h = sym h

-- what validation makes of the start's test t and the end's u
abbrev judged : Tally Bool → Tally Bool → Verdict → (Bool → Verdict) → Tally Verdict
judged t u off verdict =
    let rest = cond (not t.value) (tally off 0) (tally (verdict u.value) (u.roots + 0)) in
    tally rest.value (t.roots + rest.roots)

judged_off : (b : Bool) (n : ℕ) (u : Tally Bool) (off : Verdict) (verdict : Bool → Verdict) → b ≡ false → tally off n ≡ judged (tally b n) u off verdict
judged_off false n u off verdict h = ap (tally off) (sym (add-zero n))
judged_off true n u off verdict h = absurd (true≢false h)

judged_on : (b : Bool) (n : ℕ) (u : Tally Bool) (off : Verdict) (verdict : Bool → Verdict) → b ≡ true → tally (verdict u.value) (n + u.roots) ≡ judged (tally b n) u off verdict
judged_on true n u off verdict h = ap (λ m. tally (verdict u.value) (n + m)) (sym (add-zero u.roots))
judged_on false n u off verdict h = absurd (false≢true h)

judged_takes : (b : Bool) (n : ℕ) (u : Tally Bool) (p : Vector2) (verdict : Bool → Verdict) → ((on : Bool) → Later (verdict on)) → Takes n u.roots (judged (tally b n) u (start_off p) verdict)
judged_takes false n u p verdict later = add-zero n
judged_takes true n u p verdict later = ap (λ (m : ℕ). n + m) (add-zero u.roots) ∙ sym (later u.value n u.roots)

module _ (g : Grade) (limit : Float) where
  module _ (v1 v2 : PlineVertex) (p : Vector2) where
    test_value : (on_segment_by counting g limit v1 v2 p).value ≡ on_segment_by plain g limit v1 v2 p
    unfolding on_segment_by near_closest_by
    test_value = chosen_value (near_end g v1 v2 p) _ _ ∙ simp (closest_value g v1 v2 p g.on_vertex limit)

    test_exactly : (on_segment_by counting g limit v1 v2 p).roots ≡
        cond (near_end g v1 v2 p) 0
        (cond (line_of g limit v1) 0
        (cond (vnear_of g p (center_of g v1 v2) g.on_vertex) 0
        (cond (sweeps_over_of g v1 v2 (center_of g v1 v2) p g.on_vertex) 1 0)))
    unfolding on_segment_by near_closest_by
    test_exactly = chosen_roots (near_end g v1 v2 p) _ _ ∙ ap (cond (near_end g v1 v2 p) 0) (add-zero _ ∙ closest_roots g limit v1 v2 p g.on_vertex)

  module _ (s : List Float) (k : ℕ) (p : Vector2) where
    abbrev from : PlineVertex
    from = vertex_value s k

    abbrev to : PlineVertex
    to = vertex_past_of s k 1

    outline_value : (on_outline_by counting g limit s k p).value ≡ on_outline_by plain g limit s k p
    unfolding on_outline_by
    outline_value = test_value from to p

    pub test_roots_law : TestRoots g limit s k p
    unfolding on_outline_by
    test_roots_law =
        record { stay = outline_value; none = λ h. test_exactly from to p ∙ none_of (near_end g from to p) (line_of g limit from) _ h; exactly = test_exactly from to p }

    outline_few : test_roots g limit s k p ≤ 1
    outline_few =
        rw test_roots_law.exactly
        (few (near_end g from to p) (line_of g limit from) (vnear_of g p (center_of g from to) g.on_vertex) (sweeps_over_of g from to (center_of g from to) p g.on_vertex))

    pub few_tested : (t : Tally Bool) → t ≡ on_outline_by counting g limit s k p → t.roots ≤ 1
    few_tested t e = subst (λ (t : Tally Bool). t.roots ≤ 1) (sym e) outline_few

  module _ (s : List Float) (d : PlineViewData) where
    abbrev first : Vector2
    first = pos_of d.updated_start

    abbrev last : ℕ
    last = wrapped d.start_index d.end_index_offset (count_of s)

    abbrev ending : Bool → Verdict
    ending on = end_verdict g d on (vertex_value s last)

    pub placed_off : (t : Tally Bool) → t ≡ on_outline_by counting g limit s d.start_index first → t.value ≡ false → tally (start_off first) t.roots ≡ placed_by counting g limit s d
    unfolding placed_by
    placed_off t e h =
        let u : Tally Bool = on_outline_by counting g limit s last d.end_point in
        judged_off t.value t.roots u (start_off first) ending h ∙ ap (λ t. judged t u (start_off first) ending) e

    pub placed_on : (t u : Tally Bool) → t ≡ on_outline_by counting g limit s d.start_index first → u ≡ on_outline_by counting g limit s last d.end_point → t.value ≡ true
        → tally (ending u.value) (t.roots + u.roots) ≡ placed_by counting g limit s d
    unfolding placed_by
    placed_on t u e f h =
        judged_on t.value t.roots u (start_off first) ending h
        ∙ ap (λ t. judged t u (start_off first) ending) e
        ∙ ap (λ u. judged (on_outline_by counting g limit s d.start_index first) u (start_off first) ending) f

    placed_value : (placed_by counting g limit s d).value ≡ placed_by plain g limit s d
    unfolding placed_by
    placed_value = chosen_value (not (on_outline_by counting g limit s d.start_index first).value) _ _ ∙ rw (outline_value s d.start_index first, outline_value s last d.end_point)

    verdicts_stay : uncounted (validate_counted g limit s d) ≡ validate_of g limit s d
    unfolding validate_by counts_by
    verdicts_stay = simp (uncounted_chosen, placed_value)

    -- what an answer of the code says of the verdict alone
    pub verdict_told : (a : Result (Rooted ViewDataValidation) Refusal) → reply_by judged_tally a ≡ validate_counted g limit s d → validate_of g limit s d ≡ uncounted (reply_by judged_tally a)
    verdict_told a e = sym verdicts_stay ∙ ap uncounted (sym e)

    abbrev start_roots : ℕ
    start_roots = test_roots g limit s d.start_index first

    abbrev end_roots : ℕ
    end_roots = test_roots g limit s last d.end_point

    end_later : (on : Bool) → Later (ending on)
    unfolding end_verdict
    end_later on = all_later (not on) (vnear_of g d.end_point (pos_of (vertex_value s last)) g.on_vertex) (not (bulges_match_of g d)) _ _ _ _ _

    placed_takes : Takes start_roots end_roots (placed_by counting g limit s d)
    unfolding placed_by
    placed_takes = judged_takes (on_outline_by counting g limit s d.start_index first).value _ (on_outline_by counting g limit s last d.end_point) first ending end_later

    all_take : IfGiven (Takes start_roots end_roots) (validate_counted g limit s d)
    unfolding validate_by counts_by
    all_take =
        given_chosen (Takes start_roots end_roots) (not (whole_outline (length s))) _ _ tt
        (given_chosen (Takes start_roots end_roots) (not (numbers_ok g s && record_ok g d)) _ _ tt
        (given_chosen (Takes start_roots end_roots) (not (limit_ok g limit)) _ _ tt
        (given_chosen (Takes start_roots end_roots) (ltb (count_of s) 2) _ _ refl
        (given_chosen (Takes start_roots end_roots) (ltb (count_of s) d.end_index_offset) _ _ refl
        (given_chosen (Takes start_roots end_roots) (not (ltb d.start_index (count_of s))) _ _ tt placed_takes)))))

    takes : (t : Tally Verdict) → validate_counted g limit s d ≡ given t → Takes start_roots end_roots t
    takes t e = subst (IfGiven (Takes start_roots end_roots)) e all_take

    at_most : (t : Tally Verdict) → validate_counted g limit s d ≡ given t → t.roots ≤ start_roots + end_roots
    at_most t e = rw (takes t e) (takes_few (ltb t.value.number 3) (eqb t.value.number 3) start_roots end_roots)

    pub roots_taken : RootsTaken g limit s d
    roots_taken =
        let a = outline_few s d.start_index first in
        let b = outline_few s last d.end_point in
        record {
          stay = verdicts_stay;
          exactly = takes;
          most = λ t e. let h = at_most t e in omega arith;
          none = λ t e r q. let h = at_most t e in let x = (test_roots_law s d.start_index first).none r in let y = (test_roots_law s last d.end_point).none q in omega arith;
          start_none = λ t e r. let h = at_most t e in let x = (test_roots_law s d.start_index first).none r in omega arith;
          end_none = λ t e q. let h = at_most t e in let y = (test_roots_law s last d.end_point).none q in omega arith;
        }
