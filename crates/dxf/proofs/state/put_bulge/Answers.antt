-- One store, or none.
use Prim.Native.Nat.{◌*◌, ◌-◌}
use native.Mathlib.Nat.{not-le_of_lt}
use native.Mathlib.Omega.{arith}
use lib.Seq.{take-set-lt}
use Rattle.dxf.proofs.state.put_bulge.Goals as goal

pub returns-then-n-le-MOST_VERTICES : goal.returns-then-n-le-MOST_VERTICES
returns-then-n-le-MOST_VERTICES c h = let a = c.args in take-set-lt (3 * a.n) a.out.now (3 * a.n - 1) a.z (omega arith)

pub returns-else-n-le-MOST_VERTICES : goal.returns-else-n-le-MOST_VERTICES
returns-else-n-le-MOST_VERTICES c h = absurd (not-le_of_lt c.if-n-le-MOST_VERTICES.false h)
