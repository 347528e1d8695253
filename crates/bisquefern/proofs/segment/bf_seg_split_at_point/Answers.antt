-- Past the reading of the segment, the reply is that of the call behind it.
use Rattle.lent.proofs.Laws.{handed_on, past, stops}
use Rattle.bisquefern.proofs.segment.bf_seg_split_at_point.Goals as goal

pub returns-in_err-v1 : goal.returns-in_err-v1
returns-in_err-v1 c = handed_on _ _ c.from_residual.ensures (stops _ c.in_err-v1.ensures)

pub returns : goal.returns
returns c = past _ c.in_ok-v1.ensures c.seg_split_at_point.ensures c.give.ensures
