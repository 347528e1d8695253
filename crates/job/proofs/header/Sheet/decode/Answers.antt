-- After i turns the first i numbers stand in the buffer.
use mathlib.Core.Path.{refl, sym, ap, ◌∙◌}
use mathlib.Core.List.{List, ◌++◌}
use Prim.Native.Nat.{ℕ, ◌+◌, ◌*◌}
use native.Mathlib.Omega.{arith}
use native.Mathlib.Numerals.{add-one}
use lib.ListN.{drop, set}
use lib.Ieee.{Float}
use Rattle.lists.specs.Plain.{tab}
use Rattle.record.specs.Bytes.{float_at}
use Rattle.job.specs.Header.{header_size}
use Rattle.job.specs.Outline.{numbers_in}
use Rattle.job.proofs.Fill.{fill_next}
use Rattle.job.proofs.header.Sheet.decode.Goals as goal

pub loop-i-init : goal.loop-i-init
unfolding numbers_in tab
loop-i-init c = refl

pub loop-i-preserved : goal.loop-i-preserved
unfolding numbers_in
loop-i-preserved c =
    let l = c.loop-i in
    let out = c.args.out.now in
    let f = λ (j : ℕ). float_at c.args.self.now.bytes.now (header_size + 8 * j) in
    ap (λ (o : List Float). set o l.i c.float_at.result) l.invariant
    ∙ fill_next f out l.i c.float_at.result (omega arith) c.float_at.ensures
    ∙ ap (λ (m : ℕ). tab f m ++ drop m out) (sym (add-one l.i))
