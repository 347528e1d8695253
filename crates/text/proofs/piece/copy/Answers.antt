-- After i turns the first i bytes of the text stand in the buffer.
use mathlib.Core.Path.{◌≡◌, refl, sym, ap, ◌∙◌}
use mathlib.Core.List.{◌++◌}
use Prim.Native.Nat.{◌+◌}
use native.Mathlib.Omega.{arith}
use lib.ListN.{length, take, drop, get_or, set}
use lib.Seq.{paste, sets-eq, take_all}
use Rattle.std.proofs.lemmas.List.Edits.{paste_more}
use Rattle.text.proofs.piece.copy.Goals as goal

pub loop-i-preserved : goal.loop-i-preserved
loop-i-preserved c = let a = c.args in
    ap (λ o. set o (a.at + c.loop-i.i) (get_or a.text.now c.loop-i.i 0)) c.loop-i.invariant ∙ paste_more a.out.now a.at a.text.now c.loop-i.i 0 (omega arith) (omega arith)

pub returns : goal.returns
returns c = let a = c.args in
    let o = a.out.now in
    let t = a.text.now in
    let e : c.loop-i.i ≡ length t = omega arith in
    record {
      text = c.loop-i.invariant ∙ ap (paste o a.at t) e
          ∙ ap (λ u. take a.at o ++ u ++ drop (a.at + length t) o) (take_all (length t) t (omega arith))
          ∙ sym (sets-eq t o a.at c.requires);
      end = refl;
    }
