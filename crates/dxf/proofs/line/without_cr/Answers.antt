-- The last byte is a CR, or the line stays.
use native.Mathlib.Omega.{arith}
use Rattle.dxf.proofs.Lines.{last_cr, last_other, none_last}
use Rattle.dxf.proofs.line.without_cr.Goals as goal

pub returns-in-13 : goal.returns-in-13
returns-in-13 c = last_cr _ c.in-13.len_at_least (omega arith)

pub returns-in_default : goal.returns-in_default
returns-in_default c = none_last _ c.in_default.len_below

pub returns-in_default-2 : goal.returns-in_default-2
returns-in_default-2 c = last_other _ c.in_default.len_at_least (λ e. omega arith)
