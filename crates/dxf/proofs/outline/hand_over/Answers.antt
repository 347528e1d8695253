-- The refusals in their order, and then the copy.
use Rattle.real.proofs.Pick.{passed, failed}
use Rattle.dxf.proofs.Outlines.{out_of_range, no_room, handed}
use Rattle.dxf.proofs.outline.hand_over.Goals as goal

pub returns-then-not-vertices_in_range : goal.returns-then-not-vertices_in_range
returns-then-not-vertices_in_range c = out_of_range c.args.numbers.now c.args.closed c.requires c.args.out.now (failed c.vertices_in_range.ensures c.if-not-vertices_in_range.true)

pub returns-then-numbers-out : goal.returns-then-numbers-out
returns-then-numbers-out c =
    no_room c.args.numbers.now c.args.closed c.requires c.args.out.now (passed c.vertices_in_range.ensures c.if-not-vertices_in_range.false) c.if-numbers-out.true

pub returns : goal.returns
returns c =
    handed c.args.numbers.now c.args.closed c.requires c.args.out.now _ (passed c.vertices_in_range.ensures c.if-not-vertices_in_range.false) c.if-numbers-out.false (cc)
