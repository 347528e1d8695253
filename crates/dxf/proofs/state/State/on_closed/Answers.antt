-- Digits only, or the refusal.
use Rattle.dxf.proofs.States.{steps_handed, closed_bad, closed_good}
use Rattle.dxf.proofs.state.State.on_closed.Goals as goal

pub returns-in_err-closed : goal.returns-in_err-closed
returns-in_err-closed c a m h =
    let o = c.args in
    steps_handed o.self a _ _ c.from_residual.ensures (closed_bad o.self a m h o.value.now _ c.in_err-closed.ensures)

pub returns : goal.returns
returns c a m h = let o = c.args in closed_good o.self a m h o.value.now _ c.in_ok-closed.ensures
