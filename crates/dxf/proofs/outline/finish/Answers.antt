-- Past the vertex limit, what the buffer holds is what was read.
use Rattle.dxf.proofs.Outlines.{too_many, as_held}
use Rattle.dxf.proofs.outline.finish.Goals as goal

pub returns-then-s-gt-MOST_VERTICES : goal.returns-then-s-gt-MOST_VERTICES
returns-then-s-gt-MOST_VERTICES c m h = let o = c.args in too_many o.s o.read.now m h o.out.now c.if-s-gt-MOST_VERTICES.true

pub returns : goal.returns
returns c m h =
    let o = c.args in
    as_held o.s o.read.now m h o.out.now c.hand_over.result _ c.if-s-gt-MOST_VERTICES.false c.hand_over.ensures
