-- The sign is taken off, and the rest read.
use mathlib.Core.Path.{ap, ◌∙◌}
use mathlib.Core.Bool.{true, false}
use native.Mathlib.Omega.{arith}
use borrow.Author.Tests.{ltb-true}
use Rattle.numeral.specs.Decimal.{unsigned_of}
use Rattle.numeral.proofs.Text.{to_end}
use Rattle.numeral.proofs.Numbers.{number_minus, number_plus, number_empty, number_bare, right}
use Rattle.numeral.proofs.decimal.number.Goals as goal
use Rattle.numeral.proofs.decimal.number.Goals.{in_default-via-then-text-lt1, in_default-via-else-text-lt1+in_default-1}

pub returns-in-45 : goal.returns-in-45
returns-in-45 c =
    let t = c.args.text.now in
    right t _ (c.unsigned.ensures ∙ ap (unsigned_of true) (to_end t 1) ∙ number_minus t c.in-45.len_at_least (omega arith))

pub returns-in-43 : goal.returns-in-43
returns-in-43 c =
    let t = c.args.text.now in
    right t _ (c.unsigned-in-43.ensures ∙ ap (unsigned_of false) (to_end t 1) ∙ number_plus t c.in-43.len_at_least (omega arith))

pub returns-in_default : goal.returns-in_default
returns-in_default c =
    let t = c.args.text.now in
    elim c.in_default.branch [
      | in_default-via-then-text-lt1 w ↦ right t _ (c.unsigned-in_default.ensures ∙ number_empty t (omega (arith, ltb-true)))
      | in_default-via-else-text-lt1+in_default-1 w ↦ right t _ (c.unsigned-in_default.ensures ∙ number_bare t (λ e. omega arith) (λ e. omega arith))
    ]
