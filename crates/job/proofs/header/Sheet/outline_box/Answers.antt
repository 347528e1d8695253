-- After k turns the box is that of the segments 0 to k.
use mathlib.Core.Path.{ap₂, ◌∙◌}
use native.Mathlib.Numerals.{add-one}
use Rattle.job.specs.Extent.{box_to, wider}
use Rattle.job.proofs.header.Sheet.outline_box.Goals as goal

pub loop-k-init : goal.loop-k-init
unfolding box_to
loop-k-init c = c.segment_box-b.ensures

pub loop-k-preserved : goal.loop-k-preserved
unfolding box_to
loop-k-preserved c =
    rw (add-one c.loop-k.k) (c.wider-b.ensures ∙ ap₂ wider c.loop-k.invariant (rw (← add-one c.loop-k.k) c.segment_box.ensures))
