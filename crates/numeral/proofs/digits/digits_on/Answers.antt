-- After b-index turns n is what is kept of the digits' number so far, so that the rest, written on after n, gives the whole.
use mathlib.Core.Path.{◌∙◌, ap}
use Prim.Native.Nat.{ℕ, ◌+◌, ◌*◌}
use Rattle.real.proofs.Pick.{passed, failed}
use Rattle.numeral.specs.Digits.{kept, is_digit_of}
use Rattle.numeral.proofs.Values.{reading_more, reading_stopped, reading_done}
use Rattle.numeral.proofs.digits.digits_on.Goals as goal

pub returns-then-not-is_ascii_digit : goal.returns-then-not-is_ascii_digit
unfolding is_digit_of
returns-then-not-is_ascii_digit c =
    reading_stopped c.loop-b.invariant c.loop-b-test.true (failed c.is_ascii_digit.ensures.value c.if-not-is_ascii_digit.true)

pub loop-b-preserved : goal.loop-b-preserved
unfolding is_digit_of
loop-b-preserved c =
    reading_more c.loop-b.invariant _ c.loop-b-test.true (passed c.is_ascii_digit.ensures.value c.if-not-is_ascii_digit.false)
    (c.written_on-n.ensures.0 ∙ ap (λ (d : ℕ). kept (10 * c.loop-b.n + d)) c.from.ensures) c.written_on-n.ensures.1

pub returns : goal.returns
returns c = reading_done c.loop-b.invariant c.loop-b-test.false
