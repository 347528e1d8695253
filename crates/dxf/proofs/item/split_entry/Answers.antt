-- The code's line, and then the value's.
use mathlib.Core.Path.{ap}
use native.Mathlib.Omega.{arith}
use Rattle.dxf.specs.Line.{lines_of, cut}
use Rattle.dxf.specs.Item.{items_of, items_in, BeginsWith}
use Rattle.dxf.proofs.Items.{begins_odd, begins_lone, begins_pair}
use Rattle.dxf.proofs.item.split_entry.Goals as goal

pub returns-in_default : goal.returns-in_default
unfolding BeginsWith items_in items_of lines_of cut
returns-in_default c = ap items_in c.in_default.ensures

pub returns-in_err-code : goal.returns-in_err-code
returns-in_err-code c = begins_odd _ _ _ c.in-Some.ensures.0 _ _ c.from_residual.ensures c.in_err-code.ensures

pub returns-in_default-split_line : goal.returns-in_default-split_line
unfolding BeginsWith
returns-in_default-split_line c = begins_lone _ _ _ c.in-Some.ensures.0 _ c.in_ok-code.ensures c.in_default-split_line.ensures

pub returns : goal.returns
unfolding BeginsWith
returns c =
    let first = c.in-Some.ensures in
    let second = c.in-Some-split_line.ensures in
    (begins_pair _ _ _ first.0 _ _ _ c.in_ok-code.ensures second.0, omega (arith, first.1, second.1))
