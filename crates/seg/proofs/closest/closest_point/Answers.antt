-- The test is the definition's; the line has its ends, and the arc its centre, by their promises.
use Rattle.real.proofs.Pick.{yes, no}
use Rattle.seg.specs.Closest.{closest_by}
use Rattle.seg.proofs.closest.closest_point.Goals as goal

pub returns-then-bulge_is_zero : goal.returns-then-bulge_is_zero
unfolding closest_by
returns-then-bulge_is_zero c =
    yes _ c.bulge_is_zero.ensures c.if-bulge_is_zero.true (simp (c.pos.ensures, c.pos-then-bulge_is_zero.ensures, c.line_seg_closest_point.ensures))

pub returns : goal.returns
unfolding closest_by
returns c =
    no _ c.bulge_is_zero.ensures c.if-bulge_is_zero.false (rw c.arc_center.ensures at c.arc_closest.ensures)
