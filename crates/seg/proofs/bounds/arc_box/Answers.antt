-- The tests are the definition's, in its order.
use Rattle.real.proofs.Pick.{picks, no, good}
use Rattle.seg.specs.Bounds.{arc_box_by}
use Rattle.seg.proofs.bounds.arc_box.Goals as goal

pub returns : goal.returns
unfolding arc_box_by
returns c =
    no _ c.ends_meet.ensures c.if-ends_meet.false
    (good _ c.crosses.ensures c.if-not-crosses.false
    (rw c.arc_circle.ensures at c.cross_box.ensures))

pub returns-then-ends_meet : goal.returns-then-ends_meet
unfolding arc_box_by
returns-then-ends_meet c = search picks

pub returns-then-not-crosses : goal.returns-then-not-crosses
unfolding arc_box_by
returns-then-not-crosses c = search picks
