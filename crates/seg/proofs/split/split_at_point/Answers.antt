-- The tests are the definition's, in its order.
use Rattle.real.proofs.Pick.{picks}
use Rattle.seg.specs.Split.{split_of}
use Rattle.seg.proofs.split.split_at_point.Goals as goal

pub returns-then-bulge_is_zero : goal.returns-then-bulge_is_zero
unfolding split_of
returns-then-bulge_is_zero c = search picks depth 8

pub returns-then-ends_meet : goal.returns-then-ends_meet
unfolding split_of
returns-then-ends_meet c = search picks depth 8

pub returns-then-lies_at : goal.returns-then-lies_at
unfolding split_of
returns-then-lies_at c = search picks depth 8

pub returns-then-lies_at-2 : goal.returns-then-lies_at-2
unfolding split_of
returns-then-lies_at-2 c = search picks depth 8

pub returns : goal.returns
unfolding split_of
returns c = search picks depth 8
