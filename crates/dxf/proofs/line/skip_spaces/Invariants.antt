-- What is left has the line's text.
use Rattle.std.proofs.Common.{◌≡◌, length}
use Rattle.dxf.specs.Line.{skip_spaces}
use Rattle.dxf.proofs.line.skip_spaces.Given as goal

abbrev pub invariant-loop-rest : goal.invariant-loop-rest
invariant-loop-rest l = skip_spaces l.rest ≡ skip_spaces l.line

abbrev pub decreases-loop-rest : goal.decreases-loop-rest
decreases-loop-rest l = length l.rest
