-- The position by its promise.
use Rattle.seg.proofs.split.lies_at.Goals as goal

pub returns : goal.returns
returns c =
    simp (c.pos.ensures, c.fuzzy_eq_eps.ensures)
