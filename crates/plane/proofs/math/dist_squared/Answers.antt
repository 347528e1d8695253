-- The squared length of the difference, by both promises.
use Rattle.plane.proofs.math.dist_squared.Goals as goal

pub returns : goal.returns
returns c =
    let e-sub = c.sub.ensures in
    let e-length-squared = c.length_squared.ensures in
    simp (e-sub, e-length-squared)
