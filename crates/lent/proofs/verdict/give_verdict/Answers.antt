-- The refusal is handed on; else either buffer may be short; else both hold their values.
use mathlib.Core.Path.{sym, ap}
use Rattle.real.specs.Reply.{reply_by}
use Rattle.view.specs.Validation.{judged_tally}
use Rattle.lent.specs.Lent.{itself}
use Rattle.lent.specs.Values.{verdict_values}
use Rattle.lent.proofs.Laws.{handed_on, refuses, replies, stored_as, first_short, second_short, both_stored}
use Rattle.lent.proofs.verdict.give_verdict.Goals as goal

pub returns-in_err-judged : goal.returns-in_err-judged
returns-in_err-judged c = handed_on _ _ c.from_residual.ensures (refuses (ap (reply_by judged_tally) (sym c.in_err-judged.was)))

pub returns-then-whole-lt4 : goal.returns-then-whole-lt4
returns-then-whole-lt4 c =
    replies (ap (reply_by judged_tally) (sym c.in_ok-judged.was)) (first_short verdict_values c.if-whole-lt4.true)

pub returns-in_err-write : goal.returns-in_err-write
returns-in_err-write c =
    replies (ap (reply_by judged_tally) (sym c.in_ok-judged.was))
    (handed_on _ _ c.from_residual-in_err-write.ensures (second_short verdict_values c.if-whole-lt4.false _ (stored_as itself itself c.verdict_numbers.ensures c.in_err-write.ensures)))

pub returns : goal.returns
returns c =
    replies (ap (reply_by judged_tally) (sym c.in_ok-judged.was))
    (both_stored verdict_values c.if-whole-lt4.false (stored_as itself itself c.verdict_numbers.ensures c.in_ok-write.ensures) (stored_as itself itself c.verdict_words.ensures c.write-2.ensures))
