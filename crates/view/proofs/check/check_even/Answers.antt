-- The shared check's refusal, that of uneven bulges, or neither.
use mathlib.Core.Path.{refl, sym, ◌∙◌}
use Rattle.real.proofs.Pick.{bad, passed}
use Rattle.real.proofs.Replies.{handed}
use Rattle.plane.specs.Grade.{double}
use Rattle.view.specs.Check.{even_of}
use Rattle.view.proofs.Checks.{checked, checked_rest, checked_refused, even_rest}
use Rattle.view.proofs.check.check_even.Goals as goal

pub returns-in_err-check_view : goal.returns-in_err-check_view
unfolding even_of
returns-in_err-check_view c =
    handed _ _ c.from_residual.ensures ∙ checked_refused double _ _ _ _ (c.in_err-check_view.ensures)

pub returns-then-not-has_even_bulges : goal.returns-then-not-has_even_bulges
unfolding even_of
returns-then-not-has_even_bulges c =
    let clear = checked double _ _ _ (c.in_ok-check_view.ensures) in
    bad _ c.has_even_bulges.ensures c.if-not-has_even_bulges.true refl ∙ sym (checked_rest double _ _ _ clear)

pub returns : goal.returns
returns c =
    let clear = checked double _ _ _ (c.in_ok-check_view.ensures) in
    sym (even_rest double _ _ _ (record { clear = clear; even = passed c.has_even_bulges.ensures c.if-not-has_even_bulges.false }))
