-- The text is parted at its point, and its parts decide.
use mathlib.Core.Path.{◌∙◌}
use Rattle.numeral.proofs.Numbers.{too_few, too_many, enough}
use Rattle.numeral.proofs.decimal.unsigned.Goals as goal
use Rattle.numeral.proofs.decimal.unsigned.Goals.{then-digits-lt1-via-then-digits-lt1, then-digits-lt1-via-else-digits-lt1+then-digits-gt-MOST_DIGITS}

pub returns-then-digits-lt1 : goal.returns-then-digits-lt1
returns-then-digits-lt1 c =
    let p = c.parted.ensures in
    elim c.then-digits-lt1.branch [
      | then-digits-lt1-via-then-digits-lt1 w ↦ too_few _ _ _ _ p.before p.after w.if-digits-lt1.true
      | then-digits-lt1-via-else-digits-lt1+then-digits-gt-MOST_DIGITS w ↦ too_many _ _ _ _ p.before p.after w.if-digits-gt-MOST_DIGITS.true
    ]

pub returns : goal.returns
returns c =
    let p = c.parted.ensures in
    c.decimal.ensures ∙ enough _ _ _ _ p.before p.after c.if-digits-lt1.false c.if-digits-gt-MOST_DIGITS.false
