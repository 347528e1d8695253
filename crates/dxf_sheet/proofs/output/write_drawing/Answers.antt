-- What the reader leaves in the buffer is the drawing's outline, and its refusal is the drawing's.
use Rattle.std.proofs.Common.{sym, arith}
use lib.Seq.{length-take-le}
use Rattle.dxf.proofs.Drawings.{refused_itself}
use Rattle.dxf_sheet.proofs.Made.{sheet_refused, drawn_there}
use Rattle.dxf_sheet.proofs.output.write_drawing.Goals as goal

pub refuse-requires : goal.refuse-requires
refuse-requires g c = sheet_refused _ _ (refused_itself c.args.drawing.now _ _ (omega arith) (sym c.in-Err.ensures.0))

pub overflow_mul-n : goal.overflow_mul-n
overflow_mul-n g c = let d = drawn_there _ _ _ _ c.in-Ok.ensures.0 c.in-Ok.ensures.1 in omega (arith, d.1)

pub slice_bounds-numbers-end : goal.slice_bounds-numbers-end
slice_bounds-numbers-end g c = (drawn_there _ _ _ _ c.in-Ok.ensures.0 c.in-Ok.ensures.1).1

pub slice_bounds-write_outline-end : goal.slice_bounds-write_outline-end
slice_bounds-write_outline-end g c = let d = drawn_there _ _ _ _ c.in-Ok.ensures.0 c.in-Ok.ensures.1 in sym (length-take-le _ _ d.1)

pub write_outline-requires : goal.write_outline-requires
write_outline-requires g c = (drawn_there _ _ _ _ c.in-Ok.ensures.0 c.in-Ok.ensures.1).0
