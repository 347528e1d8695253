-- The two tests, by their promises.
use Rattle.real.proofs.Pick.{picks}
use Rattle.plane.proofs.range.tol_and_limit_in_range.Goals as goal

pub returns-then-tol_in_range : goal.returns-then-tol_in_range
returns-then-tol_in_range c = search picks

pub returns-else-tol_in_range : goal.returns-else-tol_in_range
returns-else-tol_in_range c = search picks
