-- The test is the definition's; the line has its ends, and the arc its centre, by their promises.
use Rattle.real.proofs.Pick.{yes, no}
use Rattle.seg.specs.Distance.{far_of}
use Rattle.seg.proofs.distance.far.Goals as goal

pub returns-then-bulge_is_zero : goal.returns-then-bulge_is_zero
unfolding far_of
returns-then-bulge_is_zero c =
    yes _ c.bulge_is_zero.ensures c.if-bulge_is_zero.true (rw (c.pos.ensures, c.pos-then-bulge_is_zero.ensures) at c.line_far.ensures)

pub returns : goal.returns
unfolding far_of
returns c =
    no _ c.bulge_is_zero.ensures c.if-bulge_is_zero.false (rw c.arc_center.ensures at c.arc_far.ensures)
