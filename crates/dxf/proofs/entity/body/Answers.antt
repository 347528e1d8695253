-- The items left, one after the other.
use mathlib.Core.Path.{sym, ap, ◌∙◌}
use native.Mathlib.Omega.{arith}
use Rattle.real.specs.Reply.{refused}
use Rattle.dxf.proofs.States.{read_handed}
use Rattle.dxf.proofs.Turns.{missing, going_start, going_on, step_bad, body_odd, body_none, body_close, body_lone, body_pair, pair_left, body_done, body_early}
use Rattle.dxf.proofs.entity.body.Goals as goal
use Rattle.dxf.proofs.entity.body.Goals.{in-Some+then-entry-eq0, in_default}

pub loop-entry-init : goal.loop-entry-init
loop-entry-init c = going_start _ c.default-state.result _ c.default-state.ensures

pub returns-in_err-entry : goal.returns-in_err-entry
returns-in_err-entry c =
    let g = c.loop-entry.invariant in
    read_handed _ _ _ c.from_residual.ensures (g.is ∙ body_odd g.seen _ _ c.in_err-entry.ensures)

pub returns-in_err-value : goal.returns-in_err-value
returns-in_err-value c =
    let g = c.loop-entry.invariant in
    let m = missing c.in-Some.entry.value _ c.in_err-value.ensures.value in
    read_handed _ _ _ c.from_residual-in_err-value.ensures (g.is ∙ body_lone g.seen _ _ c.in_ok-entry.ensures _ c.in-Some.is c.if-entry-eq0.false m.0 ∙ ap refused (sym m.1))

pub returns-in_err-state : goal.returns-in_err-state
returns-in_err-state c =
    let g = c.loop-entry.invariant in
    let e = body_pair g.seen _ _ c.in_ok-entry.ensures _ c.in-Some.is c.if-entry-eq0.false _ c.in_ok-value.ensures.ok_part in
    read_handed _ _ _ c.from_residual-in_err-state.ensures (step_bad _ _ _ _ g _ _ _ _ e (c.in_err-state.ensures g.seen g.holds))

pub loop-entry-smaller : goal.loop-entry-smaller
loop-entry-smaller c =
    let l = pair_left _ _ c.in_ok-entry.ensures _ c.in-Some.is _ c.in_ok-value.ensures.ok_part in
    omega (arith, l.1)

pub loop-entry-preserved : goal.loop-entry-preserved
loop-entry-preserved c =
    let g = c.loop-entry.invariant in
    let e = body_pair g.seen _ _ c.in_ok-entry.ensures _ c.in-Some.is c.if-entry-eq0.false _ c.in_ok-value.ensures.ok_part in
    let l = pair_left _ _ c.in_ok-entry.ensures _ c.in-Some.is _ c.in_ok-value.ensures.ok_part in
    going_on _ _ _ _ g _ _ _ _ e l.1 (c.in_ok-state.ensures g.seen g.holds)

pub returns-then-not-may_end : goal.returns-then-not-may_end
returns-then-not-may_end c =
    let g = c.loop-entry.invariant in
    elim c.match-branch-2.branch [
      | in-Some+then-entry-eq0 w ↦ body_early _ _ _ _ g (body_close g.seen _ _ c.in_ok-entry.ensures _ w.in-Some.is w.if-entry-eq0.true) _ (c.may_end.ensures _ g.seen g.holds) c.if-not-may_end.true
      | in_default w ↦ body_early _ _ _ _ g (body_none g.seen _ _ c.in_ok-entry.ensures w.in_default.is) _ (c.may_end.ensures _ g.seen g.holds) c.if-not-may_end.true
    ]

pub returns : goal.returns
returns c =
    let g = c.loop-entry.invariant in
    elim c.match-branch-2.branch [
      | in-Some+then-entry-eq0 w ↦ body_done _ _ _ _ g (body_close g.seen _ _ c.in_ok-entry.ensures _ w.in-Some.is w.if-entry-eq0.true) _ (c.may_end.ensures _ g.seen g.holds) c.if-not-may_end.false
      | in_default w ↦ body_done _ _ _ _ g (body_none g.seen _ _ c.in_ok-entry.ensures w.in_default.is) _ (c.may_end.ensures _ g.seen g.holds) c.if-not-may_end.false
    ]
