-- The shared check's refusal, that of positions that are none, or the record of the part.
use mathlib.Core.Path.{refl, sym, ap, ◌∙◌}
use native.Mathlib.Omega.{arith}
use lib.Dec.{ltb}
use borrow.Author.Tests.{ltb-true}
use Rattle.real.specs.Reply.{given}
use Rattle.real.proofs.Pick.{bad, good, passed}
use Rattle.real.proofs.Replies.{handed, and_both}
use Rattle.plane.specs.Grade.{double}
use Rattle.view.specs.Answers.{trim_of}
use Rattle.view.proofs.Checks.{Evened, even_refused, evened, even_rest}
use Rattle.view.proofs.view_data.PlineViewData.trim.Goals as goal
use Rattle.view.proofs.view_data.PlineViewData.trim.Goals.{In_ok-check_even}

clear : (c : In_ok-check_even) → let a = c.args in Evened double a.source.now a.self
clear c = evened double _ _ _ (c.in_ok-check_even.ensures)

pub returns-in_err-check_even : goal.returns-in_err-check_even
unfolding trim_of
returns-in_err-check_even c = handed _ _ c.from_residual.ensures ∙ even_refused double _ _ _ _ c.in_err-check_even.ensures

pub returns-then-not-both_less : goal.returns-then-not-both_less
unfolding trim_of
returns-then-not-both_less c = bad _ c.both_less.ensures c.if-not-both_less.true refl ∙ sym (even_rest double _ _ _ (clear (goal.at.returns-then-not-both_less c).In_ok-check_even))

pub trimmed-requires : goal.trimmed-requires
trimmed-requires c =
    let a = c.args in
    let both = and_both (ltb a.i a.j) _ (passed c.both_less.ensures c.if-not-both_less.false) in
    record { below = ltb-true _ _ both.0; within = ltb-true _ _ both.1 }

pub returns : goal.returns
unfolding trim_of
returns c =
    good _ c.both_less.ensures c.if-not-both_less.false (ap given c.trimmed.ensures) ∙ sym (even_rest double _ _ _ (clear (goal.at.returns c).In_ok-check_even))

pub overflow_add-offset : goal.overflow_add-offset
overflow_add-offset c = omega (arith, (clear c).clear.placed)

pub invariant_of-trimmed : goal.invariant_of-trimmed
invariant_of-trimmed c = record { placed = (clear (goal.at.invariant_of-trimmed c).In_ok-check_even).clear.placed }

pub invariant_of-outline : goal.invariant_of-outline
invariant_of-outline c = record { few = (clear (goal.at.invariant_of-outline c).In_ok-check_even).clear.placed.few }
