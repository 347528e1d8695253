-- The items left, one after the other.
use mathlib.Core.Path.{refl, sym, ap, ◌∙◌}
use native.Mathlib.Omega.{arith}
use Rattle.real.specs.Reply.{refused}
use Rattle.real.specs.declared.refusal.Refusal.TheVariants as refusal
use Rattle.dxf.proofs.States.{read_handed, read_as, read_refused}
use Rattle.dxf.proofs.Turns.{missing, pair_left, entity_odd, entity_none, entity_lone, entity_found, entity_other, entity_named}
use Rattle.dxf.proofs.entity.read.Goals as goal
use Rattle.dxf.proofs.entity.read.Goals.{else-entry-eq0-via-then-entry-eq0+else-is_name, else-entry-eq0-via-else-entry-eq0}

pub returns-in_err-entry : goal.returns-in_err-entry
returns-in_err-entry c = read_handed _ _ _ c.from_residual.ensures (c.loop-entry.invariant ∙ entity_odd _ _ c.in_err-entry.ensures)

pub returns-in_err-value : goal.returns-in_err-value
returns-in_err-value c =
    let m = missing c.in-Some.entry.value _ c.in_err-value.ensures.value in
    read_handed _ _ _ c.from_residual-in_err-value.ensures (c.loop-entry.invariant ∙ entity_lone _ _ c.in_ok-entry.ensures _ c.in-Some.is m.0 ∙ ap refused (sym m.1))

pub loop-entry-smaller : goal.loop-entry-smaller
loop-entry-smaller c =
    let l = pair_left _ _ c.in_ok-entry.ensures _ c.in-Some.is _ c.in_ok-value.ensures.ok_part in
    omega (arith, l.1)

pub returns-then-is_name : goal.returns-then-is_name
returns-then-is_name c =
    let e = entity_found _ _ c.in_ok-entry.ensures _ c.in-Some.is _ c.in_ok-value.ensures.ok_part c.if-entry-eq0.true (sym c.is_name.ensures ∙ c.if-is_name.true) in
    read_as _ _ (c.loop-entry.invariant ∙ e) c.body.ensures

pub loop-entry-preserved : goal.loop-entry-preserved
loop-entry-preserved c =
    elim c.else-entry-eq0.branch [
      | else-entry-eq0-via-then-entry-eq0+else-is_name w ↦ c.loop-entry.invariant ∙ entity_named _ _ c.in_ok-entry.ensures _ c.in-Some.is _ c.in_ok-value.ensures.ok_part (sym w.is_name.ensures ∙ w.if-is_name.false)
      | else-entry-eq0-via-else-entry-eq0 w ↦ c.loop-entry.invariant ∙ entity_other _ _ c.in_ok-entry.ensures _ c.in-Some.is _ c.in_ok-value.ensures.ok_part w.if-entry-eq0.false
    ]

pub returns : goal.returns
returns c = read_as _ _ (c.loop-entry.invariant ∙ entity_none _ _ c.in_ok-entry.ensures c.in_default.is) (read_refused _ refusal.BadText refl)
