-- The header's check, and the rest by its promise.
use mathlib.Core.Path.{ap, ◌∙◌}
use Rattle.real.specs.Refusal.{bad_sheet}
use Rattle.real.specs.Reply.{refused}
use Rattle.real.proofs.Replies.{check_failed, handed}
use Rattle.view.specs.Answers.{buffer_after}
use Rattle.job.specs.Sheet.{sheet_of, open_of, open_buffer}
use Rattle.job.proofs.sheet.open_sheet.Goals as goal

pub returns-in_err-read : goal.returns-in_err-read
unfolding open_of open_buffer sheet_of buffer_after
returns-in_err-read c =
    let e = check_failed bad_sheet _ c.in_err-read.ensures in
    (simp e.0 (handed _ _ c.from_residual.ensures ∙ ap refused e.1), simp e.0)
