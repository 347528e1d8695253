-- The verdict by its promise, and the sum of the two counts.
use Rattle.view.proofs.validate.judge_ended.Goals as goal

pub returns : goal.returns
returns c = simp c.judge_end.ensures
