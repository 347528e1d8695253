-- Each branch is the definition's, by the sign test's promise.
use Rattle.real.proofs.Pick.{picks}
use Rattle.seg.proofs.split.signed.Goals as goal

pub returns-then-bulge_is_neg : goal.returns-then-bulge_is_neg
returns-then-bulge_is_neg c = search picks

pub returns-else-bulge_is_neg : goal.returns-else-bulge_is_neg
returns-else-bulge_is_neg c = search picks
