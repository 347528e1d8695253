-- No sheet refuses a sound outline, and what it writes is the drawing's.
use Rattle.std.proofs.Common.{sym, ap, ◌∙◌, rules}
use lib.Seq.{length-take-le}
use Rattle.real.specs.Reply.{reply}
use Rattle.dxf_sheet.proofs.Made.{unrefused, made}
use Rattle.dxf_sheet.proofs.output.write_outline.Goals as goal

pub unwrap-n-requires : goal.unwrap-n-requires
unwrap-n-requires g c = unrefused c.args.drawing.now _ c.requires _ (search rules) c.outline_sheet.result c.outline_sheet.ensures.0

pub slice_bounds-sheet-end : goal.slice_bounds-sheet-end
slice_bounds-sheet-end g c =
    (made c.args.drawing.now _ c.requires _ _ _ (search rules) (sym (ap reply c.unwrap-n.ensures) ∙ c.outline_sheet.ensures.0) c.outline_sheet.ensures.1).0

pub slice_bounds-hand_sheet-end : goal.slice_bounds-hand_sheet-end
slice_bounds-hand_sheet-end g c =
    let m = made c.args.drawing.now _ c.requires _ _ _ (search rules) (sym (ap reply c.unwrap-n.ensures) ∙ c.outline_sheet.ensures.0) c.outline_sheet.ensures.1 in
    sym (length-take-le _ _ m.0)

pub hand_sheet-requires : goal.hand_sheet-requires
hand_sheet-requires g c =
    (made c.args.drawing.now _ c.requires _ _ _ (search rules) (sym (ap reply c.unwrap-n.ensures) ∙ c.outline_sheet.ensures.0) c.outline_sheet.ensures.1).1
