-- Without a good header there is no part; else the part stands at the buffer's start.
use mathlib.Core.Path.{◌≡◌, ap, subst, ◌∙◌}
use mathlib.Core.List.{List}
use Prim.Native.Nat.{ℕ}
use native.Mathlib.Omega.{arith}
use denote.Bor.{Bor}
use Rattle.real.specs.Refusal.{bad_sheet}
use Rattle.real.specs.Reply.{given}
use Rattle.real.proofs.Replies.{same_given, check_passed, check_failed}
use Rattle.text.specs.Wrote.{Filled}
use Rattle.text.proofs.Writing.{nothing}
use Rattle.job.specs.Parts.{part_text, part_buffer}
use Rattle.job.proofs.Parting.{no_part, named_part, part_filled}
use Rattle.job.proofs.part.sheet_part.Goals as goal

pub returns-in_default : goal.returns-in_default
returns-in_default c =
    let a = c.args in
    let p = no_part a.bytes.now a.outline.now a.list.now a.k (check_failed bad_sheet _ c.in_default.ensures).0 in
    (subst (λ (t : List ℕ). Filled t a.out.now a.out.now 0) p.0 (nothing a.out.now), p.1)

pub returns : goal.returns
returns c =
    let a = c.args in
    let e : c.in-Ok.sheet.bytes.now ≡ a.bytes.now = ap (λ (b : Bor (List ℕ)). b.now) (same_given (check_passed bad_sheet (given a.bytes) c.in-Ok.ensures).1) in (
      part_filled (named_part (ap (λ (b : List ℕ). part_text b a.outline.now a.k) e) c.put_part.ensures.text) (omega arith),
      c.put_part.ensures.list ∙ ap (λ (b : List ℕ). part_buffer b a.outline.now a.k a.list.now) e,
    )
