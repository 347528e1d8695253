-- The test is the definition's.
use Rattle.job.proofs.extent.greater.Goals as goal

pub returns-then-edge-other : goal.returns-then-edge-other
returns-then-edge-other c = rw c.if-edge-other.true

pub returns-else-edge-other : goal.returns-else-edge-other
returns-else-edge-other c = rw c.if-edge-other.false
