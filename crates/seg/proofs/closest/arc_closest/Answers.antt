-- The tests are the definition's, in its order.
use Rattle.real.proofs.Pick.{picks}
use Rattle.seg.specs.Closest.{arc_closest_by}
use Rattle.seg.proofs.closest.arc_closest.Goals as goal

pub returns-then-fuzzy_eq_eps : goal.returns-then-fuzzy_eq_eps
unfolding arc_closest_by
returns-then-fuzzy_eq_eps c = search picks

pub returns-then-sweeps_over : goal.returns-then-sweeps_over
unfolding arc_closest_by
returns-then-sweeps_over c = search picks

pub returns-then-nearer : goal.returns-then-nearer
unfolding arc_closest_by
returns-then-nearer c = search picks

pub returns : goal.returns
unfolding arc_closest_by
returns c = search picks
