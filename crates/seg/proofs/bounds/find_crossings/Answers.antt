-- Each side by the promise of its sign test.
use Rattle.seg.proofs.bounds.find_crossings.Goals as goal

pub returns : goal.returns
returns c =
    simp (c.rising.ensures, c.falling.ensures, c.falling-2.ensures, c.rising-2.ensures)
