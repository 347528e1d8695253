-- The header, and then the numbers.
use Rattle.text.proofs.Writing.{then, named_piece}
use Rattle.outline_sheet.specs.Sheet.{sheet_bytes}
use Rattle.outline_sheet.proofs.sheet.put_sheet.Goals as goal

pub returns : goal.returns
unfolding sheet_bytes
returns c =
    then (named_piece c.header.ensures c.put_text-e.ensures.piece) c.put_numbers.ensures
