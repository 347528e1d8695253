-- Each edge by its promise.
use Rattle.job.proofs.extent.wider.Goals as goal

pub returns : goal.returns
returns c =
    simp (c.lesser.ensures, c.lesser-2.ensures, c.greater.ensures, c.greater-2.ensures)
