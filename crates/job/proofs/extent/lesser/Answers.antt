-- The test is the definition's.
use Rattle.job.proofs.extent.lesser.Goals as goal

pub returns-then-other-edge : goal.returns-then-other-edge
returns-then-other-edge c = rw c.if-other-edge.true

pub returns-else-other-edge : goal.returns-else-other-edge
returns-else-other-edge c = rw c.if-other-edge.false
