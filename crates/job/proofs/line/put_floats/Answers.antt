-- One float after the other.
use Rattle.text.proofs.Writing.{then}
use Rattle.job.specs.Lines.{floats}
use Rattle.job.proofs.line.put_floats.Goals as goal

pub returns : goal.returns
unfolding floats
returns c =
    then c.put_float-a.ensures.piece c.put_float.ensures.piece
