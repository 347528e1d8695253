-- The view's head, and then the refusal.
use Rattle.text.proofs.Writing.{then}
use Rattle.job.proofs.line.put_refused_view.Goals as goal

pub returns : goal.returns
returns c =
    then c.put_head-a.ensures c.put_refused.ensures
