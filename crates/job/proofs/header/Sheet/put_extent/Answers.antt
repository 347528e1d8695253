-- No text for vertices out of range, no box under two of them, and else the box of the segments.
use mathlib.Core.Path.{ap, ap₂, ◌∙◌}
use mathlib.Core.Bool.{Bool}
use mathlib.Core.List.{◌++◌}
use native.Mathlib.Omega.{arith}
use Rattle.real.proofs.Pick.{passed, failed}
use Rattle.seg.specs.declared.bounds.Bounds.{Bounds}
use Rattle.job.specs.Outline.{vertex_in_of}
use Rattle.job.specs.Extent.{box_to, last_segment_of}
use Rattle.job.specs.Lines.{box_words, no_box_words, box_end}
use Rattle.job.specs.Parts.{box_part}
use Rattle.job.proofs.Lengths.{box_length, no_box_length}
use Rattle.job.proofs.Parting.{named_part, empty_part, no_box, some_box}
use Rattle.job.proofs.header.Sheet.put_extent.Goals as goal

pub returns-then-not-vertices_are_sound : goal.returns-then-not-vertices_are_sound
unfolding box_part
returns-then-not-vertices_are_sound c =
    let e = failed c.vertices_are_sound.ensures c.if-not-vertices_are_sound.true in
    named_part (simp e) (empty_part _)

pub returns-then-n-lt2 : goal.returns-then-n-lt2
unfolding box_part
returns-then-n-lt2 c =
    let s = c.args.self.now in
    let e = passed c.vertices_are_sound.ensures c.if-not-vertices_are_sound.false in
    let ended = ap (λ (t : Bool). no_box_words ++ box_end t) c.is_retired-retired.ensures in
    let length = no_box_length c.is_retired-retired.result in
    named_part (ended ∙ simp e (no_box _ s.header s.is c.if-n-lt2.true)) (record { piece = c.put_no_box.ensures; short = omega arith })

pub returns : goal.returns
unfolding box_part
returns c =
    let s = c.args.self.now in
    let h = s.header in
    let e = passed c.vertices_are_sound.ensures c.if-not-vertices_are_sound.false in
    let last = c.last_segment-last.ensures.0 ∙ ap (λ (t : Bool). last_segment_of t h.vertices) c.is_closed.ensures in
    let is = c.outline_box.ensures ∙ ap (box_to (vertex_in_of s.bytes.now) h.vertices) last in
    let ended = ap₂ (λ (b : Bounds) (t : Bool). box_words b ++ box_end t) is c.is_retired-retired.ensures in
    let length = box_length c.outline_box.result c.is_retired-retired.result in
    named_part (ended ∙ simp e (some_box _ h s.is c.if-n-lt2.false)) (record { piece = c.put_box.ensures; short = omega arith })
