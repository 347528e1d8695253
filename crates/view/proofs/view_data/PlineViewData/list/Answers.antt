-- The shared check's refusal, that of a short buffer, or the count of a list that stands in the buffer.
use mathlib.Core.Path.{◌≡◌, sym, ap, ◌∙◌}
use mathlib.Core.List.{List}
use Prim.Native.Nat.{ℕ}
use native.Mathlib.Omega.{arith}
use lib.ListN.{length}
use lib.Ieee.{Float}
use borrow.Author.Tests.{le-leb, lt-leb}
use Rattle.real.specs.Refusal.{lacks_room}
use Rattle.real.specs.Reply.{Reply, refused, given}
use Rattle.real.proofs.Replies.{handed}
use Rattle.plane.specs.Grade.{double}
use Rattle.view.specs.Record.{vertices}
use Rattle.view.specs.Answers.{list_of, list_buffer, buffer_after, written}
use Rattle.view.specs.declared.view_data.PlineViewData.{PlineViewData}
use Rattle.view.proofs.Checks.{Checked, checked, checked_rest, checked_refused}
use Rattle.view.proofs.view_data.PlineViewData.list.Goals as goal
use Rattle.view.proofs.view_data.PlineViewData.list.Goals.{In_ok-check_view}

-- an answer, and the buffer after it
abbrev answered : List Float → PlineViewData → List Float → Reply ℕ → Type 0
answered s d out r = r ≡ list_of double s d (length out)

abbrev after : List Float → PlineViewData → List Float → Reply ℕ → List Float
after s d out r = buffer_after r out (written double s d out)

clear : (c : In_ok-check_view) → Checked double c.args.source.now c.args.self
clear c = checked double _ _ _ (c.in_ok-check_view.ensures)

pub returns-in_err-check_view : goal.returns-in_err-check_view
unfolding list_of list_buffer buffer_after
returns-in_err-check_view c =
    let e = checked_refused double c.args.source.now c.args.self _ _ c.in_err-check_view.ensures in
    (handed _ _ c.from_residual.ensures ∙ e, ap (after c.args.source.now c.args.self c.args.out.now) e)

pub returns-then-out-count : goal.returns-then-out-count
unfolding list_of list_buffer buffer_after
returns-then-out-count c =
    let e : answered c.args.source.now c.args.self c.args.out.now (refused lacks_room) = sym (checked_rest double _ _ _ (clear (goal.at.returns-then-out-count c).In_ok-check_view) ∙ simp (lt-leb _ _ c.if-out-count.true)) in
    (e, ap (after c.args.source.now c.args.self c.args.out.now) e)

pub returns : goal.returns
unfolding list_of list_buffer buffer_after
returns c =
    let e : answered c.args.source.now c.args.self c.args.out.now (given (vertices c.args.self)) = sym (checked_rest double _ _ _ (clear (goal.at.returns c).In_ok-check_view) ∙ simp (le-leb _ _ c.if-out-count.false)) in
    (e, c.write_list.ensures ∙ ap (after c.args.source.now c.args.self c.args.out.now) e)

pub overflow_add-count : goal.overflow_add-count
overflow_add-count c = omega (arith, (clear c).placed)

pub overflow_mul-count : goal.overflow_mul-count
overflow_mul-count c = omega (arith, (clear c).placed)

pub invariant_of-write_list : goal.invariant_of-write_list
invariant_of-write_list c = record { placed = (clear (goal.at.invariant_of-write_list c).In_ok-check_view).placed }

pub invariant_of-outline : goal.invariant_of-outline
invariant_of-outline c = record { few = (clear (goal.at.invariant_of-outline c).In_ok-check_view).placed.few }
