-- The squared distance's promise, under the same comparison.
use Rattle.seg.proofs.distance.end_far.Goals as goal

pub returns : goal.returns
returns c =
    simp (c.pos.ensures, c.dist_squared.ensures)
