-- The digits' number over the power of ten, rounded once, and then the sign.
use mathlib.Core.Path.{ap, ◌∙◌}
use mathlib.Core.Bool.{false, cond}
use Prim.Native.Nat.{◌^◌}
use native.Mathlib.Nat.{lt_of_lt_of_le}
use native.Mathlib.Omega.{arith}
use lib.Dec.{lit≤}
use lib.ListN.{length}
use lib.Ieee.{Float, binary64, round, neg}
use Rattle.real.proofs.Replies.{handed}
use Rattle.numeral.proofs.Round.{sign_round}
use Rattle.numeral.proofs.Numbers.{front_read, front_bad, rest_read, rest_bad, both_read, power_small}
use Rattle.numeral.proofs.decimal.decimal.Goals as goal

pub digits_on-requires-2 : goal.digits_on-requires-2
digits_on-requires-2 c = (front_read c.args.whole.now c.args.rest.now c.requires _ c.in_ok-front.ensures).2

pub quotient-requires : goal.quotient-requires
quotient-requires c =
    let q = power_small c.pow-power.result (length c.args.rest.now) c.pow-power.ensures (omega (arith, c.requires)) in
    let r = rest_read c.args.whole.now c.args.rest.now c.requires _ c.in_ok-front.ensures _ c.in_ok-all.ensures in
    (lt_of_lt_of_le r.2 (lit≤ tt), q.0, q.1)

pub returns-in_err-front : goal.returns-in_err-front
returns-in_err-front c =
    handed _ _ c.from_residual.ensures ∙ front_bad c.args.whole.now c.args.rest.now c.requires _ c.args.minus c.in_err-front.ensures

pub returns-in_err-all : goal.returns-in_err-all
returns-in_err-all c =
    handed _ _ c.from_residual-in_err-all.ensures ∙ rest_bad c.args.whole.now c.args.rest.now c.requires _ c.in_ok-front.ensures _ c.args.minus c.in_err-all.ensures

pub returns : goal.returns
returns c =
    let d = c.in_ok-all.all in
    let x = c.quotient.ensures ∙ ap (round binary64 false d) c.pow-power.ensures in
    both_read c.args.whole.now c.args.rest.now c.requires _ c.in_ok-front.ensures d _ c.args.minus c.in_ok-all.ensures
    (c.signed.ensures ∙ ap (λ (z : Float). cond c.args.minus (neg z) z) x ∙ sign_round binary64 c.args.minus d (10 ^ length c.args.rest.now))
