-- After k turns the first k numbers stand in the buffer.
use native.Mathlib.Omega.{arith}
use Rattle.outline_sheet.proofs.Written.{writing_none, writing_more, writing_all}
use Rattle.outline_sheet.proofs.numbers.put_numbers.Goals as goal

pub loop-x-preserved : goal.loop-x-preserved
loop-x-preserved c =
    writing_more c.loop-x.invariant (omega arith) c.put_number-e.auto.out c.put_number-e.ensures.piece

pub loop-x-init : goal.loop-x-init
loop-x-init c = writing_none _ _ _

pub shape_of-out : goal.shape_of-out
shape_of-out c = c.loop-x.invariant.size

pub returns : goal.returns
returns c = writing_all c.loop-x.invariant (omega arith)
