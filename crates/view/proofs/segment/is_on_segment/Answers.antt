-- An end, or the closest point, by their promises.
use Rattle.real.proofs.Pick.{picks}
use Rattle.view.specs.Segment.{on_segment_by}
use Rattle.view.proofs.segment.is_on_segment.Goals as goal

pub returns-then-near_an_end : goal.returns-then-near_an_end
unfolding on_segment_by
returns-then-near_an_end c = search picks

pub returns : goal.returns
unfolding on_segment_by
returns c = search picks
