-- The shared check's refusal, or the record with its direction flipped.
use mathlib.Core.Path.{sym, ◌∙◌}
use Rattle.real.proofs.Replies.{handed}
use Rattle.plane.specs.Grade.{double}
use Rattle.lists.specs.View.{turn_view}
use Rattle.view.specs.Answers.{reverse_of}
use Rattle.view.proofs.Checks.{even_refused, evened, even_rest}
use Rattle.view.proofs.view_data.PlineViewData.reverse.Goals as goal

pub returns-in_err-check_even : goal.returns-in_err-check_even
unfolding reverse_of
returns-in_err-check_even c = handed _ _ c.from_residual.ensures ∙ even_refused double _ _ _ _ c.in_err-check_even.ensures

pub returns : goal.returns
unfolding reverse_of turn_view
returns c =
    sym (even_rest double _ _ _ (evened double _ _ _ (c.in_ok-check_even.ensures)))
