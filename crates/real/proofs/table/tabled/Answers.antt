-- The table is that of the roots, which antt computes.
use mathlib.Core.Path.{◌∙◌}
use Prim.Native.Nat.{◌+◌, ◌*◌, ◌^◌}
use native.Mathlib.Omega.{arith}
use Rattle.real.specs.Root.{isqrt}
use Rattle.real.proofs.Listed.{listed_at}
use Rattle.real.proofs.table.tabled.Goals as goal

pub returns : goal.returns
unfolding isqrt
returns c =
    let i = c.args.i in record {
      here = c.from.ensures ∙ listed_at (λ j. isqrt (j * 2 ^ 23)) 32 97 i (omega (arith, c.requires));
      next = c.from-2.ensures ∙ listed_at (λ j. isqrt (j * 2 ^ 23)) 32 97 (i + 1) (omega (arith, c.requires));
    }
