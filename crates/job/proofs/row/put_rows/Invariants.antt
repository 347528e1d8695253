-- After k turns the rows of the first k vertices stand in the buffer.
use Rattle.text.specs.Wrote.{Piece}
use Rattle.job.specs.Rows.{rows}
use Rattle.job.proofs.row.put_rows.Given as goal

abbrev pub invariant-loop-k : goal.invariant-loop-k
invariant-loop-k l = Piece l.initial.out l.at (rows l.list l.k) l.out l.e
