-- Digits only, or the refusal.
use Rattle.dxf.proofs.States.{steps_handed, count_bad, count_good}
use Rattle.dxf.proofs.state.State.on_count.Goals as goal

pub returns-in_err-whole : goal.returns-in_err-whole
returns-in_err-whole c a m h =
    let o = c.args in
    steps_handed o.self a _ _ c.from_residual.ensures (count_bad o.self a m h o.value.now _ c.in_err-whole.ensures)

pub returns : goal.returns
returns c a m h = let o = c.args in count_good o.self a m h o.value.now _ c.in_ok-whole.ensures
