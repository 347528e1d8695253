-- The split's start, by the promise.
use Rattle.view.specs.Create.{end_on_segment_of}
use Rattle.view.proofs.create.end_on_segment.Goals as goal

pub returns : goal.returns
unfolding end_on_segment_of
returns c = simp c.split_segment-split.ensures
