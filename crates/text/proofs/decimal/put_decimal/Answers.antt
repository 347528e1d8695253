-- The digits, where there is room for as many.
use mathlib.Core.Path.{sym, ap, ◌∙◌}
use native.Mathlib.Nat.{le_of_eq}
use Rattle.text.specs.Digits.{digits}
use Rattle.text.proofs.Writing.{allowed, named}
use Rattle.text.proofs.Digits.{decimal_digits}
use Rattle.text.proofs.decimal.put_decimal.Goals as goal

pub returns : goal.returns
returns c =
    let e = c.count_digits-count.ensures in
    allowed c.has_room.ensures c.if-not-has_room.false (le_of_eq (sym e))
    (named (ap (λ k. digits k c.args.n) e ∙ decimal_digits c.args.n) c.put_digits.ensures)
