-- The test is the definition's; a line's point is its own, and an arc's the counted one without its roots.
use mathlib.Core.Path.{◌∙◌}
use Rattle.real.proofs.Pick.{yes, no}
use Rattle.real.proofs.Tallies.{value_of}
use Rattle.plane.specs.Grade.{double}
use Rattle.seg.specs.Closest.{closest_by}
use Rattle.seg.proofs.Uncounted.{arc_value}
use Rattle.seg.proofs.closest.closest.Goals as goal

pub returns-then-bulge_is_zero : goal.returns-then-bulge_is_zero
unfolding closest_by
returns-then-bulge_is_zero c =
    yes _ c.bulge_is_zero.ensures c.if-bulge_is_zero.true (rw (c.pos.ensures, c.pos-then-bulge_is_zero.ensures) at c.line_seg_closest_point.ensures)

pub returns : goal.returns
unfolding closest_by
returns c =
    no _ c.bulge_is_zero.ensures c.if-bulge_is_zero.false (value_of (rw c.arc_center.ensures at c.arc_closest.ensures) ∙ arc_value double _ _ _ _ _)
