-- Without a place for the words nothing is written; else the outline is, and then its words.
use Rattle.std.proofs.Common.{rules}
use Rattle.dxf.specs.Outline.{outline_of, outline_to, outline_buffer}
use Rattle.lent.specs.Lent.{itself}
use Rattle.lent.proofs.Laws.{handed_on, stored_as}
use Rattle.lent.proofs.Drawings.{unplaced, unplaced_refused, drawing_given, drawing_refused}
use Rattle.lent.proofs.drawing.give_drawing.Goals as goal

pub returns-in_err-dxf_outline : goal.returns-in_err-dxf_outline
unfolding outline_to
returns-in_err-dxf_outline c =
    handed_on _ _ c.from_residual.ensures (unplaced_refused _ c.if-whole-lt2.true (outline_of c.args.text.now) _ (c.in_err-dxf_outline.ensures.0))

pub returns-then-whole-lt2 : goal.returns-then-whole-lt2
unfolding outline_to
returns-then-whole-lt2 c = unplaced _ c.if-whole-lt2.true (outline_of c.args.text.now) c.in_ok-dxf_outline.field-0 (c.in_ok-dxf_outline.ensures.0)

pub returns-in_err-d : goal.returns-in_err-d
unfolding outline_to outline_buffer
returns-in_err-d c =
    handed_on _ _ c.from_residual-in_err-d.ensures (drawing_refused c.if-whole-lt2.false (outline_of c.args.text.now) _ (c.in_err-d.ensures.0) (c.in_err-d.ensures.1))

pub returns : goal.returns
unfolding outline_to outline_buffer
returns c =
    let d = c.in_ok-d.d in
    drawing_given c.if-whole-lt2.false (outline_of c.args.text.now) d _ (c.in_ok-d.ensures.0) (c.in_ok-d.ensures.1)
    (stored_as itself itself (search rules) c.write.ensures)
