-- A segment of a sheet whose vertices are in range has a box: no segment call refuses it.
use mathlib.Core.Path.{◌≡◌, ◌∙◌}
use Prim.Native.Nat.{ℕ, ◌+◌, ◌<◌}
use native.Mathlib.Nat.{mod-lt}
use native.Mathlib.Omega.{arith}
use mathlib.Core.Bool.{true}
use Rattle.std.specs.Prelude.{Result, Ok}
use Rattle.real.specs.Reply.{reply}
use Rattle.real.specs.declared.refusal.Refusal.{Refusal}
use Rattle.plane.specs.Grade.{double}
use Rattle.plane.specs.Range.{vertex_ok, seg_ok}
use Rattle.plane.specs.declared.pline_vertex.PlineVertex.{PlineVertex}
use Rattle.plane.proofs.Limits.{limits}
use Rattle.seg.specs.Bounds.{seg_box}
use Rattle.seg.specs.declared.bounds.Bounds.{Bounds}
use Rattle.seg.proofs.Laws.{box_given}
use Rattle.lists.specs.View.{wrapped}
use Rattle.view.specs.Outline.{all}
use Rattle.view.proofs.All.{all_each}
use Rattle.job.specs.Extent.{segment_box_of}
use Rattle.job.proofs.Given.{is_given}

segment_ok : (src : ℕ → PlineVertex) (n k : ℕ) → all (λ j. vertex_ok double (src j)) n ≡ true → k < n → seg_ok double (src k) (src (wrapped k 1 n)) ≡ true
unfolding seg_ok
segment_ok src n k s h =
    let ok = all_each (λ j. vertex_ok double (src j)) n s in
    simp (ok k h, ok (wrapped k 1 n) (mod-lt (k + 1) (omega arith)))

pub segment_boxed : (src : ℕ → PlineVertex) (n k : ℕ) (r : Result Bounds Refusal) → all (λ j. vertex_ok double (src j)) n ≡ true → k < n → reply r ≡ seg_box double double.line (src k) (src (wrapped k 1 n)) → r ≡ Ok (segment_box_of (src k) (src (wrapped k 1 n)))
segment_boxed src n k r s h e = is_given r (e ∙ box_given double double.line _ _ (segment_ok src n k s h) limits.least)
