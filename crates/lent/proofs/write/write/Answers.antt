-- A short buffer is refused; else the values stand in front.
use Rattle.lent.specs.Lent.{itself}
use Rattle.lent.proofs.Laws.{short, stores}
use Rattle.lent.proofs.write.write.Goals as goal

pub returns-then-out-values : goal.returns-then-out-values
returns-then-out-values g c = short itself c.if-out-values.true

pub returns : goal.returns
returns g c = stores itself c.if-out-values.false (search Rattle.std.proofs.Common.rules)
