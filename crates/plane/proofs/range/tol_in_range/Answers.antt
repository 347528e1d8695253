-- The two comparisons are the definition's.
use Rattle.real.proofs.Pick.{picks}
use Rattle.plane.specs.Range.{tol_ok}
use Rattle.plane.proofs.range.tol_in_range.Goals as goal

pub returns-then-t : goal.returns-then-t
unfolding tol_ok
returns-then-t c = search picks

pub returns-else-t : goal.returns-else-t
unfolding tol_ok
returns-else-t c = search picks
