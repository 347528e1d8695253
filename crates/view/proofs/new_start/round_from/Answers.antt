-- The split of segment k and the ending, by their promises.
use Rattle.view.specs.Create.{round_from_of}
use Rattle.view.proofs.new_start.round_from.Goals as goal

pub returns : goal.returns
unfolding round_from_of
returns c = simp (c.forward_data.ensures, c.round_ending-e.ensures, c.split_segment-split.ensures)
