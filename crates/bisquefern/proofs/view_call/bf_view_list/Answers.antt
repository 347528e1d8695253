-- Past the reading of the record, the reply is that of the call behind it.
use mathlib.Core.Path.{refl}
use Rattle.lent.proofs.Laws.{handed_on, past, stops}
use Rattle.bisquefern.proofs.view_call.bf_view_list.Goals as goal

pub returns-in_err-d : goal.returns-in_err-d
returns-in_err-d c = handed_on _ _ c.from_residual.ensures (stops _ c.in_err-d.ensures)

pub returns : goal.returns
returns c =
    past _ c.in_ok-d.ensures refl c.give_list.ensures
