-- The line is a word, a number and the line's end.
use Rattle.job.specs.Lines.{refused_line}
use Rattle.job.proofs.line.put_refused.Goals as goal

pub returns : goal.returns
unfolding refused_line
returns c = c.put_worded.ensures
