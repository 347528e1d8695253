-- The closest point with its roots, and its test, by their promises.
use native.Mathlib.Nat.{add-zero}
use Rattle.real.proofs.Tallies.{value_of, roots_of}
use Rattle.view.specs.Segment.{near_closest_by}
use Rattle.view.proofs.segment.near_closest_point.Goals as goal

pub returns : goal.returns
unfolding near_closest_by
returns c = let closest = c.closest_point-closest.ensures in simp (value_of closest, roots_of closest, add-zero, c.fuzzy_eq_eps.ensures)
