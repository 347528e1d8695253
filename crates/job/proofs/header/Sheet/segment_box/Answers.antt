-- Both vertices are in range, so that the box is not refused.
use mathlib.Core.Path.{ap, ap₂, ◌∙◌}
use Rattle.std.specs.Prelude.{is_ok}
use Rattle.plane.specs.Grade.{double}
use Rattle.seg.specs.Bounds.{seg_box}
use Rattle.job.specs.Outline.{vertex_in_of}
use Rattle.job.proofs.Boxes.{segment_boxed}
use Rattle.job.proofs.Sheets.{vertices_by}
use Rattle.job.proofs.header.Sheet.segment_box.Goals as goal

pub unwrap-requires : goal.unwrap-requires
unwrap-requires c =
    let s = c.args.self.now in
    ap is_ok (segment_boxed (vertex_in_of s.bytes.now) s.header.vertices c.args.k _ (vertices_by _ _ s.is ∙ c.requires.sound) c.requires.inside (c.seg_bounding_box.ensures ∙ ap₂ (seg_box double double.line) c.vertex-v1.ensures c.vertex-v2.ensures))

pub returns : goal.returns
returns c =
    let s = c.args.self.now in
    let e = segment_boxed (vertex_in_of s.bytes.now) s.header.vertices c.args.k _ (vertices_by _ _ s.is ∙ c.requires.sound) c.requires.inside (c.seg_bounding_box.ensures ∙ ap₂ (seg_box double double.line) c.vertex-v1.ensures c.vertex-v2.ensures) in
    cc (e, c.unwrap.ensures)
