-- The two checks in their order, and then the outline decoded.
use mathlib.Core.Path.{ap, ◌∙◌}
use mathlib.Core.List.{◌++◌}
use Prim.Native.Nat.{◌+◌, ◌*◌}
use lib.ListN.{drop}
use Rattle.real.specs.Reply.{given}
use Rattle.real.proofs.Pick.{passed, failed}
use Rattle.view.specs.Answers.{buffer_after}
use Rattle.job.specs.declared.header.Header.{Header}
use Rattle.job.specs.Sheet.{outline_of, sheet_of, open_of, open_buffer}
use Rattle.job.proofs.header.Sheet.open.Goals as goal

pub returns-then-not-records_are_sound : goal.returns-then-not-records_are_sound
unfolding open_of open_buffer sheet_of buffer_after
returns-then-not-records_are_sound c =
    let e = failed c.records_are_sound.ensures c.if-not-records_are_sound.true in
    (simp (c.args.self.now.good, e), simp (c.args.self.now.good, e))

pub returns-then-not-vertices_are_sound : goal.returns-then-not-vertices_are_sound
unfolding open_of open_buffer sheet_of buffer_after
returns-then-not-vertices_are_sound c =
    let e = passed c.records_are_sound.ensures c.if-not-records_are_sound.false in
    let f = failed c.vertices_are_sound.ensures c.if-not-vertices_are_sound.true in
    (simp (c.args.self.now.good, e, f), simp (c.args.self.now.good, e, f))

pub returns : goal.returns
unfolding open_of open_buffer sheet_of buffer_after
returns c =
    let s = c.args.self.now in
    let e = passed c.records_are_sound.ensures c.if-not-records_are_sound.false in
    let f = passed c.vertices_are_sound.ensures c.if-not-vertices_are_sound.false in (
      simp (s.good, e, f) (ap (λ (h : Header). given (record { numbers = 3 * h.vertices; parts = h.views + 2 })) s.is),
      simp (s.good, e, f) (c.decode.ensures ∙ ap (λ (h : Header). outline_of s.bytes.now ++ drop (3 * h.vertices) c.args.outline.now) s.is),
    )
