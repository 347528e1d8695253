-- The record's bytes are written, or the writer's refusal is handed on.
use Rattle.lent.proofs.Laws.{handed_on}
use Rattle.lent.proofs.Record.{record_given, record_refused}
use Rattle.lent.proofs.values.PlineViewDataLend.lend.Goals as goal

pub returns-in_err-record_to_bytes : goal.returns-in_err-record_to_bytes
returns-in_err-record_to_bytes c = let e = c.in_err-record_to_bytes.ensures in handed_on _ _ c.from_residual.ensures (record_refused e.0 e.1)

pub returns : goal.returns
returns c = let e = c.in_ok-record_to_bytes.ensures in record_given e.0 e.1
