-- The record is put together from the calls' answers, field by field.
use Rattle.lists.specs.View.{part}
use Rattle.view.proofs.placed.PlacedView.part.Goals as goal

pub returns : goal.returns
unfolding part
returns c =
    simp (c.fwd_wrapping_index-start.ensures.is, c.forward-first.ensures, c.forward-last.ensures, c.forward.ensures, c.pos-end.ensures)
