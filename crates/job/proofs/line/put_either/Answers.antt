-- The flag picks the text.
use mathlib.Core.Path.{ap, sym, ◌∙◌}
use mathlib.Core.Bool.{Bool, cond}
use mathlib.Core.List.{List}
use Prim.Native.Nat.{ℕ}
use denote.Bor.{Bor}
use Rattle.text.proofs.Writing.{put_named}
use Rattle.job.proofs.line.put_either.Goals as goal
use Rattle.job.proofs.line.put_either.Goals.{then-flag, else-flag}

pub returns : goal.returns
returns c =
    let a = c.args in
    put_named (elim c.if-flag.branch [
      | then-flag w ↦ ap (λ (t : Bor (List ℕ)). t.now) w.put_text-is ∙ ap (λ (t : Bool). cond t a.set.now a.clear.now) (sym w.if-flag.true)
      | else-flag w ↦ ap (λ (t : Bor (List ℕ)). t.now) w.put_text-is ∙ ap (λ (t : Bool). cond t a.set.now a.clear.now) (sym w.if-flag.false)
    ]) c.put_text.ensures
