-- The reply is that of the call behind it.
use Rattle.lent.proofs.Laws.{replies}
use Rattle.bisquefern.proofs.Placed.{new_start_answered}
use Rattle.bisquefern.proofs.view_call.bf_view_from_new_start.Goals as goal

pub returns : goal.returns
returns c = search (replies, new_start_answered)
