-- The length is tested, then the form; each refusal is the definition's.
use mathlib.Core.Path.{ap}
use borrow.Author.Tests.{eq-eqb, ne_eqb}
use Rattle.real.specs.Reply.{given}
use Rattle.real.proofs.Pick.{passed, failed}
use Rattle.record.specs.Record.{record_from}
use Rattle.record.proofs.record.record_from_bytes.Goals as goal

pub returns-then-bytes-ne-RECORD_BYTES : goal.returns-then-bytes-ne-RECORD_BYTES
unfolding record_from
returns-then-bytes-ne-RECORD_BYTES c = simp (ne_eqb _ _ c.if-bytes-ne-RECORD_BYTES.true)

pub returns-then-not-record_is_sound : goal.returns-then-not-record_is_sound
unfolding record_from
returns-then-not-record_is_sound c =
    simp (eq-eqb _ _ c.if-bytes-ne-RECORD_BYTES.false, failed c.record_is_sound.ensures c.if-not-record_is_sound.true)

pub returns : goal.returns
unfolding record_from
returns c =
    simp (eq-eqb _ _ c.if-bytes-ne-RECORD_BYTES.false, passed c.record_is_sound.ensures c.if-not-record_is_sound.false) (ap given c.record_of.ensures)
