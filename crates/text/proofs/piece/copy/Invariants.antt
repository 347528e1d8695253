-- After i turns the first i bytes of the text stand in the buffer.
use mathlib.Core.Path.{◌≡◌}
use lib.Seq.{paste}
use Rattle.text.proofs.piece.copy.Given as goal

abbrev pub invariant-loop-i : goal.invariant-loop-i
invariant-loop-i l = l.out ≡ paste l.initial.out l.at l.text l.i
