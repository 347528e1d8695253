-- The first byte that is a point parts the text, or the text has none.
use mathlib.Core.Path.{◌∙◌}
use Prim.Native.Nat.{◌+◌}
use Rattle.numeral.proofs.Text.{to_end}
use Rattle.numeral.proofs.Numbers.{parted_at, unparted}
use Rattle.numeral.proofs.decimal.parted.Goals as goal

pub returns-in-Some-clause-before : goal.returns-in-Some-clause-before
returns-in-Some-clause-before c = (parted_at _ _ c.in-Some.ensures).0

pub returns-in-Some-clause-after : goal.returns-in-Some-clause-after
returns-in-Some-clause-after c = to_end c.args.text.now (c.in-Some.p + 1) ∙ (parted_at _ _ c.in-Some.ensures).1

pub returns-in-None-clause-before : goal.returns-in-None-clause-before
returns-in-None-clause-before c = (unparted _ c.in-None.ensures).0

pub returns-in-None-clause-after : goal.returns-in-None-clause-after
returns-in-None-clause-after c = (unparted _ c.in-None.ensures).1
