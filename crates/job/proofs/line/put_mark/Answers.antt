-- The mark picks the word.
use mathlib.Core.Path.{sym, ap}
use Rattle.view.specs.Validation.{mark_case}
use Rattle.view.specs.declared.validation.Mark.{Mark}
use Rattle.job.specs.Lines.{mark_word}
use Rattle.text.proofs.Writing.{put_named}
use Rattle.job.proofs.line.put_mark.Goals as goal

pub returns-in-Cut : goal.returns-in-Cut
returns-in-Cut c = put_named (ap (λ (m : Mark). mark_word (mark_case m)) (sym c.in-Cut.is)) c.put_text.ensures

pub returns-in-Hold : goal.returns-in-Hold
returns-in-Hold c = put_named (ap (λ (m : Mark). mark_word (mark_case m)) (sym c.in-Hold.is)) c.put_text-in-Hold.ensures
