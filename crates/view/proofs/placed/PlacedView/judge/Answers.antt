-- The start's test is the definition's; the end is judged on its segment and that segment's first vertex.
use mathlib.Core.Path.{◌∙◌}
use Rattle.plane.specs.Grade.{double}
use Rattle.view.proofs.Roots.{few_tested, placed_off, placed_on, denied, granted}
use Rattle.view.proofs.placed.PlacedView.judge.Goals as goal

pub returns-then-not-started : goal.returns-then-not-started
returns-then-not-started c =
    let p = c.pos-p.ensures in
    simp p (placed_off double _ _ _ _ (simp p at c.point_is_on_segment-started.ensures) (denied c.if-not-started.true))

pub judge_ended-requires : goal.judge_ended-requires
judge_ended-requires c =
    record { last = few_tested double _ _ _ _ _ c.point_is_on_segment-ended.ensures; first = few_tested double _ _ _ _ _ c.point_is_on_segment-started.ensures }

pub returns : goal.returns
returns c =
    simp (c.vertex.ensures, c.fwd_wrapping_index-last.ensures.is) at c.judge_ended.ensures
    ∙ placed_on double _ _ _ _ _ (simp c.pos-p.ensures at c.point_is_on_segment-started.ensures) (simp c.fwd_wrapping_index-last.ensures.is at c.point_is_on_segment-ended.ensures) (granted c.if-not-started.false)
