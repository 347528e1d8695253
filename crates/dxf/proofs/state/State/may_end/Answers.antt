-- The two tests, one after the other.
use mathlib.Core.Path.{◌∙◌}
use Rattle.real.proofs.Pick.{both, not_first}
use Rattle.dxf.proofs.States.{flipped, may_end_as}
use Rattle.dxf.proofs.state.State.may_end.Goals as goal

pub returns-then-is_none : goal.returns-then-is_none
returns-then-is_none c a m h = both (flipped c.is_none.ensures) c.if-is_none.true c.eq.ensures ∙ may_end_as c.args.self a m h c.requires

pub returns-else-is_none : goal.returns-else-is_none
returns-else-is_none c a m h = not_first _ (flipped c.is_none.ensures) c.if-is_none.false ∙ may_end_as c.args.self a m h c.requires
