-- A space is left out; any other byte, or none, begins the text.
use mathlib.Core.Path.{sym, ap, ◌∙◌}
use native.Mathlib.Omega.{arith}
use Rattle.numeral.proofs.Text.{to_end}
use Rattle.dxf.specs.Line.{skip_spaces}
use Rattle.dxf.proofs.Lines.{space_first, text_first, text_none}
use Rattle.dxf.proofs.line.skip_spaces.Goals as goal

pub loop-rest-preserved : goal.loop-rest-preserved
loop-rest-preserved c =
    let t = c.loop-rest.rest.now in
    ap skip_spaces (to_end t 1) ∙ sym (space_first t c.in-32.len_at_least (omega arith)) ∙ c.loop-rest.invariant

pub returns-in_default : goal.returns-in_default
returns-in_default c = sym (text_none c.loop-rest.rest.now c.in_default.len_below) ∙ c.loop-rest.invariant

pub returns-in_default-2 : goal.returns-in_default-2
returns-in_default-2 c = sym (text_first c.loop-rest.rest.now (λ e. omega arith)) ∙ c.loop-rest.invariant
