-- After i turns the first i numbers stand in the buffer.
use mathlib.Core.Path.{◌≡◌}
use mathlib.Core.List.{◌++◌}
use lib.ListN.{drop}
use Rattle.job.specs.Outline.{numbers_in}
use Rattle.job.proofs.header.Sheet.decode.Given as goal

abbrev pub invariant-loop-i : goal.invariant-loop-i
invariant-loop-i l = l.out ≡ numbers_in l.self.bytes.now l.i ++ drop l.i l.initial.out
