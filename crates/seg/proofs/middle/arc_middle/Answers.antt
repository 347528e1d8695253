-- The midpoint's promise, moved by the sagitta.
use Rattle.seg.specs.Middle.{arc_mid}
use Rattle.seg.proofs.middle.arc_middle.Goals as goal

pub returns : goal.returns
unfolding arc_mid
returns c =
    simp c.chord_midpoint-m.ensures
