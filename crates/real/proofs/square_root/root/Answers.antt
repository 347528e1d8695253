-- The zeros and the infinity are their own roots, `root_bits` has the root of every other number above zero, and the rest have none.
use mathlib.Core.Path.{refl, sym, ap, ◌∙◌, subst}
use native.Mathlib.Omega.{arith}
use lib.Dec.{T}
use lib.Ieee.{binary64, fits, to_bits}
use Rattle.real.specs.Root.{root_of}
use Rattle.real.proofs.Values.{zero_by_zero, below_infinity, no_nan}
use Rattle.real.proofs.Patterns.{own_root, nan_root, root_zero, root_minus_zero, root_infinity, root_none, pattern_of_law, pattern_lt}
use Rattle.real.proofs.square_root.root.Goals as goal
use Rattle.real.proofs.square_root.root.Goals.{Start}

-- what owning an `f64` tells: the format holds it
held : (c : Start) → T (fits binary64 c.args.x)
held c = subst T (sym c.well_formed.0.1) tt

pub returns-then-b-eq0 : goal.returns-then-b-eq0
returns-then-b-eq0 c =
    own_root binary64 c.args.x 0 (held c.before.before.before) (sym c.if-b-eq0.true) (root_zero binary64)

pub returns-else-b-eq0 : goal.returns-else-b-eq0
returns-else-b-eq0 c =
    c.root_bits.ensures.rooted ∙ ap (root_of binary64) (pattern_of_law binary64 c.args.x (to_bits binary64 c.args.x) (held c.before.before.before.before) refl)

pub returns-then-b-eq-INFINITY : goal.returns-then-b-eq-INFINITY
returns-then-b-eq-INFINITY c =
    own_root binary64 c.args.x 0x7ff0_0000_0000_0000 (held c.before.before.before) (sym c.if-b-eq-INFINITY.true) (root_infinity binary64)

pub returns-then-b : goal.returns-then-b
returns-then-b c =
    own_root binary64 c.args.x 0x8000_0000_0000_0000 (held c.before.before.before.before) (sym c.if-b.true) (root_minus_zero binary64)

pub returns-else-b : goal.returns-else-b
returns-else-b c =
    let x = c.args.x in
    let b = to_bits binary64 x in
    zero_by_zero binary64
    ∙ sym (root_none binary64 b (pattern_lt binary64 x b (held c.before.before.before.before) refl) (omega arith) c.if-b.false)
    ∙ ap (root_of binary64) (pattern_of_law binary64 x b (held c.before.before.before.before) refl)

pub returns-then-x : goal.returns-then-x
returns-then-x c = nan_root binary64 c.args.x c.if-x.true

pub float_to_bits-b : goal.float_to_bits-b
float_to_bits-b c = no_nan c.args.x c.if-x.false

pub float_from_bits-result : goal.float_from_bits-result
float_from_bits-result c = below_infinity binary64 c.root_bits.result c.root_bits.ensures.finite
