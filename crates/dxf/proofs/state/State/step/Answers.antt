-- The code picks the step.
use native.Mathlib.Omega.{arith}
use Rattle.real.specs.declared.refusal.Refusal.TheVariants as refusal
use Rattle.dxf.proofs.States.{steps_refused, steps_as, steps_same, step_y, step_late, step_90, step_70, step_10, step_20, step_42, step_other}
use Rattle.dxf.proofs.state.State.step.Goals as goal

pub returns-in-Some-eq20 : goal.returns-in-Some-eq20
returns-in-Some-eq20 c m h =
    let o = c.args in
    steps_as o.self c.on_y.result _ (step_y m o.code o.value.now _ h.waits _ c.in-Some-eq20.is-0 c.in-Some-eq20.is-1) (c.on_y.ensures m h)

pub returns-in-Some-default : goal.returns-in-Some-default
returns-in-Some-default c m h =
    let o = c.args in
    steps_refused o.self o.out.now refusal.BadText (step_late m o.code o.value.now _ h.waits _ c.in-Some-default.is-0 (λ e. omega arith))

pub returns-in-None-eq90 : goal.returns-in-None-eq90
returns-in-None-eq90 c m h =
    let o = c.args in
    steps_as o.self c.on_count.result o.out.now (step_90 m o.code o.value.now _ h.waits c.in-None-eq90.is-0 c.in-None-eq90.is-1) (c.on_count.ensures o.out.now m h)

pub returns-in-None-eq70 : goal.returns-in-None-eq70
returns-in-None-eq70 c m h =
    let o = c.args in
    steps_as o.self c.on_closed.result o.out.now (step_70 m o.code o.value.now _ h.waits c.in-None-eq70.is-0 c.in-None-eq70.is-1) (c.on_closed.ensures o.out.now m h)

pub returns-in-None-eq10 : goal.returns-in-None-eq10
returns-in-None-eq10 c m h =
    let o = c.args in
    steps_as o.self c.on_x.result o.out.now (step_10 m o.code o.value.now _ h.waits c.in-None-eq10.is-0 c.in-None-eq10.is-1) (c.on_x.ensures o.out.now m h)

pub returns-in-None-eq20 : goal.returns-in-None-eq20
returns-in-None-eq20 c m h =
    let o = c.args in
    steps_refused o.self o.out.now refusal.BadText (step_20 m o.code o.value.now _ h.waits c.in-None-eq20.is-0 c.in-None-eq20.is-1)

pub returns-in-None-eq42 : goal.returns-in-None-eq42
returns-in-None-eq42 c m h =
    let o = c.args in
    steps_as o.self c.on_bulge.result _ (step_42 m o.code o.value.now _ h.waits c.in-None-eq42.is-0 c.in-None-eq42.is-1) (c.on_bulge.ensures m h)

pub returns-in-None-default : goal.returns-in-None-default
returns-in-None-default c m h =
    let o = c.args in
    steps_as o.self _ o.out.now (step_other m o.code o.value.now _ h.waits c.in-None-default.is-0 (λ e. omega arith) (λ e. omega arith) (λ e. omega arith) (λ e. omega arith) (λ e. omega arith)) (steps_same o.self o.out.now m h o.value.now)
