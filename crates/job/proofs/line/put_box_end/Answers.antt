-- The flag picks the line's end.
use Rattle.job.proofs.line.put_box_end.Goals as goal

pub returns : goal.returns
returns c = c.put_either.ensures
