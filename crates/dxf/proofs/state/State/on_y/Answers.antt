-- The number, and the vertex written, or its refusal.
use Rattle.dxf.proofs.States.{steps_handed, y_bad, y_good}
use Rattle.dxf.proofs.state.State.on_y.Goals as goal

pub returns-in_err-y : goal.returns-in_err-y
returns-in_err-y c m h =
    let o = c.args in
    steps_handed o.self o.out.now _ _ c.from_residual.ensures (y_bad o.self o.out.now m h o.value.now o.x _ c.in_err-y.ensures.0)

pub returns : goal.returns
returns c m h = let o = c.args in y_good o.self o.out.now m h o.value.now o.x _ _ c.in_ok-y.ensures.0 c.put_vertex.ensures
