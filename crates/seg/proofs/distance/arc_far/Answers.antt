-- The tests are the definition's, in its order; in the sweep, radius and radial come by their promises.
use Rattle.real.proofs.Pick.{picks}
use Rattle.seg.specs.Distance.{arc_far_of}
use Rattle.seg.proofs.distance.arc_far.Goals as goal

pub returns : goal.returns
unfolding arc_far_of
returns c =
    let off-center = simp c.fuzzy_eq_eps.ensures at c.if-fuzzy_eq_eps.false in
    let in_sweep = simp c.sweeps_over.ensures at c.if-not-sweeps_over.false in
    simp (off-center, in_sweep, c.arc_radius.ensures, c.dist_squared.ensures, c.ring_far.ensures)

pub returns-then-fuzzy_eq_eps : goal.returns-then-fuzzy_eq_eps
unfolding arc_far_of
returns-then-fuzzy_eq_eps c = search picks

pub returns-then-not-sweeps_over : goal.returns-then-not-sweeps_over
unfolding arc_far_of
returns-then-not-sweeps_over c = search picks
