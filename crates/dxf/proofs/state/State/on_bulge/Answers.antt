-- The number, and the last vertex's bulge written, or a refusal.
use Rattle.dxf.proofs.States.{steps_refused, steps_handed, bulge_none, bulge_bad, bulge_good}
use Rattle.real.specs.declared.refusal.Refusal.TheVariants as refusal
use Rattle.dxf.proofs.state.State.on_bulge.Goals as goal

pub returns-then-self-lt1 : goal.returns-then-self-lt1
returns-then-self-lt1 c m h =
    let o = c.args in
    steps_refused o.self o.out.now refusal.BadText (bulge_none o.self o.out.now m h o.value.now c.if-self-lt1.true)

pub returns-in_err-number : goal.returns-in_err-number
returns-in_err-number c m h =
    let o = c.args in
    steps_handed o.self o.out.now _ _ c.from_residual.ensures (bulge_bad o.self o.out.now m h o.value.now _ c.if-self-lt1.false c.in_err-number.ensures.0)

pub returns : goal.returns
returns c m h =
    let o = c.args in
    bulge_good o.self o.out.now m h o.value.now _ _ c.if-self-lt1.false c.in_ok-number.ensures.0 c.put_bulge.ensures
