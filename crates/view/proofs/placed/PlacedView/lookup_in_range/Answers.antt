-- The two tests are the definition's.
use Rattle.real.proofs.Pick.{picks}
use Rattle.view.proofs.placed.PlacedView.lookup_in_range.Goals as goal

pub reads_in_range-requires : goal.reads_in_range-requires
reads_in_range-requires c = c.requires

pub returns-then-record_in_range : goal.returns-then-record_in_range
returns-then-record_in_range c = search picks

pub returns-else-record_in_range : goal.returns-else-record_in_range
returns-else-record_in_range c = search picks
