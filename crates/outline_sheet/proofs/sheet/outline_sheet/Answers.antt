-- The refusals in their order, and then the sheet, which stands at the buffer's start.
use mathlib.Core.Path.{◌≡◌, ap, ◌∙◌}
use mathlib.Core.List.{◌++◌}
use Prim.Native.Nat.{ℕ, ◌/◌, ◌%◌}
use native.Mathlib.Omega.{arith}
use lib.Dec.{eqb}
use lib.ListN.{length, drop}
use borrow.Author.Tests.{lt-leb, le-leb, leb-true}
use Rattle.real.proofs.Pick.{passed, failed}
use Rattle.real.proofs.Replies.{and_both}
use Rattle.real.specs.Reply.{given}
use Rattle.plane.specs.Range.{most_vertices, whole_outline}
use Rattle.record.specs.Record.{buffer_by}
use Rattle.text.proofs.Writing.{filled}
use Rattle.outline_sheet.specs.Sheet.{sheet_size, sheet_bytes, sheet_to, sheet_buffer}
use Rattle.outline_sheet.proofs.Written.{sheet_length}
use Rattle.outline_sheet.proofs.sheet.outline_sheet.Goals as goal

pub returns-then-not-outline_is_whole : goal.returns-then-not-outline_is_whole
unfolding sheet_to sheet_buffer buffer_by
returns-then-not-outline_is_whole c = let w = failed c.outline_is_whole.ensures c.if-not-outline_is_whole.true in (simp w, simp w)

pub returns-then-not-vertices_in_range : goal.returns-then-not-vertices_in_range
unfolding sheet_to sheet_buffer buffer_by
returns-then-not-vertices_in_range c =
    let w = passed c.outline_is_whole.ensures c.if-not-outline_is_whole.false in
    let r = failed c.vertices_in_range.ensures c.if-not-vertices_in_range.true in
    (simp (w, r), simp (w, r))

pub returns-then-outline-out : goal.returns-then-outline-out
unfolding sheet_to sheet_buffer buffer_by
returns-then-outline-out c =
    let w = passed c.outline_is_whole.ensures c.if-not-outline_is_whole.false in
    let r = passed c.vertices_in_range.ensures c.if-not-vertices_in_range.false in
    let s = lt-leb _ _ c.if-outline-out.true in
    (simp (w, r, s), simp (w, r, s))

pub put_sheet-requires : goal.put_sheet-requires
unfolding whole_outline
put_sheet-requires c =
    let n = length c.args.outline.now in
    leb-true (n / 3) most_vertices (and_both (eqb (n % 3) 0) _ (passed c.outline_is_whole.ensures c.if-not-outline_is_whole.false)).1

pub returns : goal.returns
unfolding sheet_to sheet_buffer buffer_by
returns c =
    let s = c.args.outline.now in
    let w = passed c.outline_is_whole.ensures c.if-not-outline_is_whole.false in
    let r = passed c.vertices_in_range.ensures c.if-not-vertices_in_range.false in
    let m = le-leb _ _ c.if-outline-out.false in
    let n = sheet_length s c.args.closed in
    let p = c.put_sheet.ensures.wrote (omega (arith, n, c.if-outline-out.false)) in
    let e : c.put_sheet.result ≡ sheet_size s = p.end ∙ omega (arith, n) in
    let f = filled p (omega (arith, e, c.if-outline-out.false)) in
    (simp (w, r, m) (ap given e), simp (w, r, m) (f.holds ∙ ap (λ (k : ℕ). sheet_bytes s c.args.closed ++ drop k c.args.out.now) e))
