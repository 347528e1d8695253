-- The shared check's refusal, or past it the count.
use mathlib.Core.Path.{sym, ◌∙◌}
use native.Mathlib.Omega.{arith}
use Rattle.real.proofs.Replies.{handed}
use Rattle.plane.specs.Grade.{double}
use Rattle.view.specs.Answers.{vertex_count_of}
use Rattle.view.proofs.Checks.{Checked, checked, checked_rest, checked_refused}
use Rattle.view.proofs.view_data.PlineViewData.vertex_count.Goals as goal
use Rattle.view.proofs.view_data.PlineViewData.vertex_count.Goals.{In_ok-check_view}

clear : (c : In_ok-check_view) → let a = c.args in Checked double a.source.now a.self
clear c = checked double _ _ _ (c.in_ok-check_view.ensures)

pub returns-in_err-check_view : goal.returns-in_err-check_view
unfolding vertex_count_of
returns-in_err-check_view c = handed _ _ c.from_residual.ensures ∙ checked_refused double _ _ _ _ c.in_err-check_view.ensures

pub returns : goal.returns
unfolding vertex_count_of
returns c = sym (checked_rest double _ _ _ (clear c))

pub overflow_add-result : goal.overflow_add-result
overflow_add-result c = omega (arith, (clear c).placed)
