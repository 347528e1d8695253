-- The test is the definition's.
use mathlib.Core.Path.{sym}
use Rattle.record.specs.Record.{fields_ok}
use Rattle.record.proofs.record.record_is_sound.Goals as goal

pub returns : goal.returns
unfolding fields_ok
returns c = simp (sym c.le32.ensures.0)
