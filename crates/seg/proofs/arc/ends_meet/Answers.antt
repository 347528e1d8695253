-- Both positions by their promise.
use Rattle.seg.proofs.arc.ends_meet.Goals as goal

pub returns : goal.returns
returns c =
    simp (c.pos.ensures, c.pos-2.ensures, c.fuzzy_eq_eps.ensures)
