-- What opening a sheet answers picks the text: a refusal is all of it, and the parts, joined, are.
use Rattle.std.proofs.Common.{sym, ap, ◌∙◌, List, length, replicate, take, arith}
use Rattle.std.specs.Prelude.{Float}
use Rattle.std.specs.Float.{binary64}
use Rattle.std.specs.Float.Ieee.{of_bits}
use Rattle.std.proofs.lemmas.List.{length-replicate}
use lib.Seq.{length-take-le}
use Rattle.job.specs.Rows.{joined}
use Rattle.job.specs.Sheet.{outline_numbers}
use Rattle.job.specs.Parts.{part_text}
use Rattle.job.proofs.Sheets.{opened_few, opened_length}
use Rattle.job.proofs.Whole.{parts_whole, refused_whole}
use Rattle.sheet.proofs.output.write_sheet.Goals as goal

pub write_refused-requires : goal.write_refused-requires
write_refused-requires g c = refused_whole _ _ (sym c.in-Err.ensures.0)

pub slice_bounds-outline-end : goal.slice_bounds-outline-end
slice_bounds-outline-end g c =
    let o = c.in-Ok.ensures in
    let n = ap length o.1 ∙ opened_length _ _ (sym o.0) _ (length-replicate outline_numbers (of_bits binary64 0)) in
    omega (arith, opened_few _ _ (sym o.0), n)

pub slice_bounds-write_parts-end : goal.slice_bounds-write_parts-end
slice_bounds-write_parts-end g c =
    let o = c.in-Ok.ensures in
    let n = ap length o.1 ∙ opened_length _ _ (sym o.0) _ (length-replicate outline_numbers (of_bits binary64 0)) in
    sym (length-take-le _ _ (omega (arith, opened_few _ _ (sym o.0), n)))

pub write_parts-requires : goal.write_parts-requires
write_parts-requires g c =
    let o = c.in-Ok.ensures in
    let b = c.args.bytes.now in
    let p = c.in-Ok.opened in
    ap (λ (l : List Float). joined (part_text b (take p.numbers l)) p.parts) o.1 ∙ parts_whole b (replicate outline_numbers (of_bits binary64 0)) p (sym o.0)
