-- Four digits, then a pair, are written before those that stand, and an odd digit at last.
use mathlib.Core.Path.{◌≡◌, sym, ap, ap₂, ◌∙◌}
use Prim.Native.Nat.{◌+◌, ◌-◌, ◌<◌}
use native.Mathlib.Omega.{arith}
use lib.Seq.{sets}
use Rattle.text.proofs.Writing.{one_before, two_before, four_before}
use Rattle.text.proofs.Digits.{none_more, one_more, two_more, four_more, digits_length}
use Rattle.text.proofs.decimal.put_digits.Invariants.{Behind}
use Rattle.text.proofs.decimal.put_digits.Goals as goal
use Rattle.text.proofs.decimal.put_digits.Goals.{then-left-ge2, else-left-ge2, then-left-eq1, else-left-eq1}

pub loop-left-preserved : goal.loop-left-preserved
loop-left-preserved c = let a = c.args in
    let l = c.loop-left in
    let w = l.invariant.1.0 in
    let k = l.left - 4 in (
      omega arith,
      (_, four_before a.out.now w (a.at + k) _ _ _ _ (omega arith) l.invariant.1.1 c.put_pair.ensures c.put_pair-in-loop-left.ensures, sym (four_more k l.rest w (omega arith)) ∙ l.invariant.1.2),
    )

paired : (c : goal.Joined-left-eq1) → Behind c.args.out.now c.if-left-ge2.out c.args.at c.args.count c.args.n c.if-left-ge2.left c.if-left-ge2.rest × (c.if-left-ge2.left < 2)
paired c = let a = c.args in
    let l = c.loop-left in
    let w = l.invariant.1.0 in
    let k = l.left - 2 in
    elim c.if-left-ge2.branch [
      | then-left-ge2 b ↦ rw (b.left-is, b.rest-is, b.out-is) (
        (omega arith, (_, b.put_pair-then-left-ge2.ensures ∙ two_before a.out.now w (a.at + k) _ _ {j = a.at + l.left} (omega arith) l.invariant.1.1, sym (two_more k l.rest w (omega arith)) ∙ l.invariant.1.2)),
        omega arith,
      )
      | else-left-ge2 b ↦ rw (b.left-is, b.rest-is, b.out-is) (l.invariant, omega arith)
    ]

pub returns : goal.returns
returns c = let a = c.args in
    let o = a.out.now in
    let l = c.if-left-ge2 in
    let p = paired c in
    let w = p.0.1.0 in
    record {
      text = elim c.if-left-eq1.branch [
        | then-left-eq1 b ↦ b.out-is ∙ one_before o w a.at _ (omega arith) p.0.1.1 ∙ ap (sets o a.at) (sym (one_more l.rest w (omega arith)) ∙ p.0.1.2)
        | else-left-eq1 b ↦ b.out-is ∙ p.0.1.1 ∙ ap₂ (sets o) (let e : a.at + l.left ≡ a.at = omega arith in e) (sym (none_more l.rest w (omega arith)) ∙ p.0.1.2)
      ];
      end = ap (λ k. a.at + k) (sym (digits_length _ _));
    }
