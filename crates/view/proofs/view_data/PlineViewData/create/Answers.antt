-- The guards are the definition's tests, in its order; past them the view ends as `find_end` finds.
use mathlib.Core.Path.{◌≡◌, refl}
use mathlib.Core.Bool.{◌&&◌}
use native.Mathlib.Omega.{arith}
use lib.Dec.{ltb}
use borrow.Author.Tests.{lt-ltb, le-ltb, ltb-true}
use Rattle.real.specs.Refusal.{bad_number, bad_tolerance, bad_outline}
use Rattle.real.specs.Reply.{Reply, check}
use Rattle.real.proofs.Pick.{picks, good, bad, passed}
use Rattle.real.proofs.Replies.{and_both}
use Rattle.plane.specs.Grade.{double}
use Rattle.plane.specs.Range.{tol_ok, limit_ok, point_ok, vertex_ok}
use Rattle.view.specs.Outline.{count_of, viewable, numbers_ok}
use Rattle.view.specs.Create.{create_of}
use Rattle.view.specs.declared.view_data.PlineViewData.{PlineViewData}
use Rattle.view.proofs.Checks.{viewable_in}
use Rattle.view.proofs.view_data.PlineViewData.create.Goals as goal
use Rattle.view.proofs.view_data.PlineViewData.create.Goals.{Else-not-tol_and_limit_in_range}

-- past the third guard an answer is the definition's if it is what the definition has there
past : (c : Else-not-tol_and_limit_in_range) {r x : Reply PlineViewData} → r ≡ x → let a = c.args in let s = a.source.now in
    r ≡ check (viewable s) bad_outline (check (numbers_ok double s && (point_ok double a.p && vertex_ok double a.first)) bad_number (check (tol_ok double a.eps && limit_ok double a.limit) bad_tolerance x))
past c e =
    good _ c.serves_views.ensures c.if-not-serves_views.false
    (good _ c.all_in_range.ensures c.if-not-all_in_range.false
    (good _ c.tol_and_limit_in_range.ensures c.if-not-tol_and_limit_in_range.false e))

pub returns-then-traverse-eq0 : goal.returns-then-traverse-eq0
unfolding create_of
returns-then-traverse-eq0 c = past (goal.at.returns-then-traverse-eq0 c).Else-not-tol_and_limit_in_range (simp (le-ltb 0 c.args.traverse (omega (arith, c.if-traverse-eq0.true))))

pub returns-then-not-both_less : goal.returns-then-not-both_less
unfolding create_of
returns-then-not-both_less c =
    past (goal.at.returns-then-not-both_less c).Else-not-tol_and_limit_in_range
    (simp (lt-ltb 0 c.args.traverse (omega (arith, c.if-traverse-eq0.false))) (bad _ c.both_less.ensures c.if-not-both_less.true refl))

pub invariant_of-outline : goal.invariant_of-outline
invariant_of-outline c = record { few = (viewable_in _ (passed c.serves_views.ensures c.if-not-serves_views.false)).1 }

pub find_end-e-requires : goal.find_end-e-requires
find_end-e-requires c =
    let a = c.args in
    record {
      at = ltb-true _ _ (and_both (ltb a.start (count_of a.source.now)) _ (passed c.both_less.ensures c.if-not-both_less.false)).1;
      some = omega (arith, c.if-traverse-eq0.false);
    }

pub returns : goal.returns
unfolding create_of
returns c =
    past (goal.at.returns c).Else-not-tol_and_limit_in_range
    (simp (lt-ltb 0 c.args.traverse (omega (arith, c.if-traverse-eq0.false))) (good _ c.both_less.ensures c.if-not-both_less.false (rw c.find_end-e.ensures at c.ended_at.ensures)))

pub returns-then-not-serves_views : goal.returns-then-not-serves_views
unfolding create_of
returns-then-not-serves_views c = search picks

pub returns-then-not-all_in_range : goal.returns-then-not-all_in_range
unfolding create_of
returns-then-not-all_in_range c = search picks

pub returns-then-not-tol_and_limit_in_range : goal.returns-then-not-tol_and_limit_in_range
unfolding create_of
returns-then-not-tol_and_limit_in_range c = search picks depth 8
