-- The guards are the definition's tests, in its order; past them the view goes round from the segment that `move_on` finds.
use mathlib.Core.Path.{◌≡◌, refl}
use mathlib.Core.Bool.{◌&&◌}
use Prim.Native.Nat.{◌≤◌}
use borrow.Author.Tests.{lt-ltb, le-ltb}
use Rattle.real.specs.Refusal.{bad_number, bad_tolerance, bad_outline}
use Rattle.real.specs.Reply.{Reply, check}
use Rattle.real.proofs.Pick.{picks, good, bad, passed}
use Rattle.plane.specs.Grade.{double}
use Rattle.plane.specs.Range.{most_vertices, tol_ok, limit_ok, point_ok}
use Rattle.view.specs.Outline.{count_of, viewable, numbers_ok}
use Rattle.view.specs.Create.{new_start_of}
use Rattle.view.specs.declared.view_data.PlineViewData.{PlineViewData}
use Rattle.view.proofs.Checks.{viewable_in}
use Rattle.view.proofs.view_data.PlineViewData.from_new_start.Goals as goal
use Rattle.view.proofs.view_data.PlineViewData.from_new_start.Goals.{Else-not-serves_views, Else-not-tol_and_limit_in_range}

few : (c : Else-not-serves_views) → count_of c.args.source.now ≤ most_vertices
few c = (viewable_in _ (passed c.serves_views.ensures c.if-not-serves_views.false)).1

-- past the third guard an answer is the definition's if it is what the definition has there
past : (c : Else-not-tol_and_limit_in_range) {r x : Reply PlineViewData} → r ≡ x → let a = c.args in let s = a.source.now in
    r ≡ check (viewable s) bad_outline (check (numbers_ok double s && point_ok double a.p) bad_number (check (tol_ok double a.eps && limit_ok double a.limit) bad_tolerance x))
past c e =
    good _ c.serves_views.ensures c.if-not-serves_views.false
    (good _ c.outline_and_point_in_range.ensures c.if-not-outline_and_point_in_range.false
    (good _ c.tol_and_limit_in_range.ensures c.if-not-tol_and_limit_in_range.false e))

pub returns-then-not-closed : goal.returns-then-not-closed
unfolding new_start_of
returns-then-not-closed c = past (goal.at.returns-then-not-closed c).Else-not-tol_and_limit_in_range (bad {t = c.args.closed} _ refl c.if-not-closed.true refl)

pub returns-then-start-source : goal.returns-then-start-source
unfolding new_start_of
returns-then-start-source c =
    past (goal.at.returns-then-start-source c).Else-not-tol_and_limit_in_range
    (good {t = c.args.closed} _ refl c.if-not-closed.false (simp (le-ltb _ _ c.if-start-source.true)))

pub invariant_of-outline : goal.invariant_of-outline
invariant_of-outline c = record { few = few (goal.at.invariant_of-outline c).Else-not-serves_views }

pub move_on-k-requires : goal.move_on-k-requires
move_on-k-requires c = c.if-start-source.false

pub round_from-requires : goal.round_from-requires
round_from-requires c = c.move_on-k.ensures.below

pub returns : goal.returns
unfolding new_start_of
returns c =
    past (goal.at.returns c).Else-not-tol_and_limit_in_range
    (good {t = c.args.closed} _ refl c.if-not-closed.false (simp (lt-ltb _ _ c.if-start-source.false) (simp (c.move_on-k.ensures.is, c.round_from.ensures))))

pub returns-then-not-serves_views : goal.returns-then-not-serves_views
unfolding new_start_of
returns-then-not-serves_views c = search picks

pub returns-then-not-outline_and_point_in_range : goal.returns-then-not-outline_and_point_in_range
unfolding new_start_of
returns-then-not-outline_and_point_in_range c = search picks

pub returns-then-not-tol_and_limit_in_range : goal.returns-then-not-tol_and_limit_in_range
unfolding new_start_of
returns-then-not-tol_and_limit_in_range c = search picks depth 8
