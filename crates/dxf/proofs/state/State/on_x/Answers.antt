-- The number, or its refusal.
use Rattle.dxf.proofs.States.{steps_handed, x_bad, x_good}
use Rattle.dxf.proofs.state.State.on_x.Goals as goal

pub returns-in_err-number : goal.returns-in_err-number
returns-in_err-number c a m h =
    let o = c.args in
    steps_handed o.self a _ _ c.from_residual.ensures (x_bad o.self a m h o.value.now _ c.in_err-number.ensures.0)

pub returns : goal.returns
returns c a m h = let o = c.args in x_good o.self a m h o.value.now _ c.in_ok-number.ensures.0
