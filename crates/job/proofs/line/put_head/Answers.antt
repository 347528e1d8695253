-- The head is a word, a number and a space.
use Rattle.job.specs.Lines.{view_head}
use Rattle.job.proofs.line.put_head.Goals as goal

pub returns : goal.returns
unfolding view_head
returns c = c.put_worded.ensures
