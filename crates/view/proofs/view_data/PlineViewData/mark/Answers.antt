-- The verdict's mark, or its refusal.
use mathlib.Core.Path.{sym, ap, ◌∙◌}
use Rattle.std.specs.Prelude.{Ok, Err}
use Rattle.real.specs.Reply.{given}
use Rattle.real.proofs.Replies.{handed_by}
use Rattle.plane.specs.Grade.{double}
use Rattle.view.specs.Validation.{mark_case, mark_answer}
use Rattle.view.proofs.Roots.{verdict_told}
use Rattle.view.proofs.view_data.PlineViewData.mark.Goals as goal

pub returns : goal.returns
returns c =
    let a = c.args in
    ap given c.mark.ensures ∙ ap (mark_answer a.closed a.source.now a.self) (sym (verdict_told double a.limit _ _ (Ok c.in_ok-judged.judged) c.in_ok-judged.ensures))

pub returns-in_err-judged : goal.returns-in_err-judged
returns-in_err-judged c =
    let a = c.args in
    handed_by mark_case _ _ c.from_residual.ensures ∙ ap (mark_answer a.closed a.source.now a.self) (sym (verdict_told double a.limit _ _ (Err c.in_err-judged.field-0.0) c.in_err-judged.ensures))
