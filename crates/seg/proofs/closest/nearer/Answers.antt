-- Both squared distances by their promise.
use Rattle.seg.proofs.closest.nearer.Goals as goal

pub returns : goal.returns
returns c =
    simp (c.pos.ensures, c.dist_squared.ensures, c.pos-2.ensures, c.dist_squared-2.ensures)
