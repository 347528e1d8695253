-- The slices are equal where their bytes are.
use mathlib.Core.Path.{ap, ◌∙◌}
use lib.Dec.{eqb}
use lib.Pointwise.{pointwise}
use Rattle.dxf.proofs.Turns.{same_is}
use Rattle.dxf.proofs.entity.is_name.Goals as goal

pub returns : goal.returns
returns c = c.eq.ensures ∙ ap (pointwise eqb c.args.value.now) c.as_slice.ensures ∙ same_is _ _
