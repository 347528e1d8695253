-- Each return is the definition's link whose test the code made; past them the vertex is looked up.
use mathlib.Core.Path.{◌≡◌, refl, sym, ◌∙◌}
use mathlib.Core.Bool.{true, ◌&&◌}
use mathlib.Core.List.{List}
use Prim.Native.Nat.{ℕ, ◌<◌}
use native.Mathlib.Omega.{arith}
use lib.Dec.{ltb}
use lib.Ieee.{Float}
use borrow.Author.Tests.{lt-ltb, le-ltb}
use Rattle.real.specs.Refusal.{bad_number, bad_index}
use Rattle.real.specs.Reply.{Reply, given, check}
use Rattle.real.proofs.Pick.{bad, good, passed}
use Rattle.real.proofs.Replies.{handed}
use Rattle.plane.specs.Grade.{double}
use Rattle.plane.specs.declared.pline_vertex.PlineVertex.{PlineVertex}
use Rattle.view.specs.Outline.{viewable}
use Rattle.view.specs.Record.{vertices, record_vertex_of, record_ok, reads_ok}
use Rattle.view.specs.Needs.{Placed}
use Rattle.view.specs.Answers.{get_vertex_of}
use Rattle.view.specs.declared.view_data.PlineViewData.{PlineViewData}
use Rattle.view.proofs.Checks.{place_placed, place_rest, place_refused}
use Rattle.view.proofs.view_data.PlineViewData.get_vertex.Goals as goal
use Rattle.view.proofs.view_data.PlineViewData.get_vertex.Goals.{In_ok-check_place}

-- the definition's last link
abbrev last : List Float → PlineViewData → ℕ → Reply PlineVertex
last s d k = check (record_ok double d && reads_ok double s d k) bad_number (given (record_vertex_of double s d k))

-- past the place's check the answer is the last two links, and past the position's the last
past : (s : List Float) (d : PlineViewData) (k : ℕ) → viewable s ≡ true → Placed s d → check (ltb k (vertices d)) bad_index (last s d k) ≡ get_vertex_of double s d k
unfolding get_vertex_of
past s d k v p = good _ refl v (sym (place_rest _ _ _ p))

found : (s : List Float) (d : PlineViewData) (k : ℕ) → viewable s ≡ true → Placed s d → k < vertices d → last s d k ≡ get_vertex_of double s d k
found s d k v p h = simp (lt-ltb _ _ h) at (past s d k v p)

-- what the first guard and the place's check say of the outline and the view
seen : (c : In_ok-check_place) → viewable c.args.source.now ≡ true
seen c = passed c.serves_views.ensures c.if-not-serves_views.false

placed : (c : In_ok-check_place) → Placed c.args.source.now c.args.self
placed c = place_placed _ _ _ (seen c) (c.in_ok-check_place.ensures)

pub returns-then-not-serves_views : goal.returns-then-not-serves_views
unfolding get_vertex_of
returns-then-not-serves_views c = bad _ c.serves_views.ensures c.if-not-serves_views.true refl

pub returns-in_err-check_place : goal.returns-in_err-check_place
unfolding get_vertex_of
returns-in_err-check_place c =
    good _ c.serves_views.ensures c.if-not-serves_views.false (handed _ _ c.from_residual.ensures ∙ place_refused _ _ _ _ c.in_err-check_place.ensures)

pub returns-then-index-offset : goal.returns-then-index-offset
returns-then-index-offset c =
    let at = (goal.at.returns-then-index-offset c).In_ok-check_place in
    simp (le-ltb _ _ c.if-index-offset.true) at (past c.args.source.now c.args.self c.args.index (seen at) (placed at))

pub returns-then-not-lookup_in_range : goal.returns-then-not-lookup_in_range
returns-then-not-lookup_in_range c =
    let at = (goal.at.returns-then-not-lookup_in_range c).In_ok-check_place in
    bad _ c.lookup_in_range.ensures c.if-not-lookup_in_range.true refl ∙ found _ _ _ (seen at) (placed at) c.if-index-offset.false

pub returns : goal.returns
returns c =
    let at = (goal.at.returns c).In_ok-check_place in
    good _ c.lookup_in_range.ensures c.if-not-lookup_in_range.false (rw c.vertex.ensures) ∙ found _ _ _ (seen at) (placed at) c.if-index-offset.false

pub overflow_add-offset : goal.overflow_add-offset
overflow_add-offset c = omega (arith, placed c)

pub invariant_of-view : goal.invariant_of-view
invariant_of-view c = record { placed = placed (goal.at.invariant_of-view c).In_ok-check_place }

pub invariant_of-outline : goal.invariant_of-outline
invariant_of-outline c = record { few = (placed (goal.at.invariant_of-outline c).In_ok-check_place).few }
