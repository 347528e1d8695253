-- Each edge by the promise of `pick`.
use Rattle.seg.proofs.bounds.cross_box.Goals as goal

pub returns : goal.returns
returns c =
    simp (c.pick.ensures, c.pick-2.ensures, c.pick-3.ensures, c.pick-4.ensures)
