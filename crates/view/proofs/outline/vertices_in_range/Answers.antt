-- The loop's invariant: each vertex passed is in range.
use mathlib.Core.Path.{◌≡◌, refl, sym, ap, ◌∙◌}
use native.Mathlib.Omega.{arith}
use Rattle.real.proofs.Pick.{passed, failed}
use Rattle.plane.specs.Grade.{double}
use Rattle.plane.specs.Range.{vertex_ok}
use Rattle.view.specs.Outline.{count_of, vertex_value, all, numbers_ok}
use Rattle.view.proofs.All.{all_more, all_not}
use Rattle.view.proofs.outline.vertices_in_range.Goals as goal

pub loop-k-init : goal.loop-k-init
unfolding all
loop-k-init c = refl

pub returns-then-not-vertex_in_range : goal.returns-then-not-vertex_in_range
unfolding numbers_ok
returns-then-not-vertex_in_range c =
    sym (all_not _ _ c.loop-k.k (omega arith)
    (failed (simp c.vertex_at.ensures at c.vertex_in_range.ensures) c.if-not-vertex_in_range.true))

pub loop-k-preserved : goal.loop-k-preserved
loop-k-preserved c =
    all_more _ c.loop-k.k c.loop-k.invariant
    (passed (simp c.vertex_at.ensures at c.vertex_in_range.ensures) c.if-not-vertex_in_range.false)

pub returns : goal.returns
unfolding numbers_ok
returns c =
    let s = c.args.source.now in
    let e : c.loop-k.k ≡ count_of s = omega arith in
    sym c.loop-k.invariant ∙ ap (all (λ i. vertex_ok double (vertex_value s i))) e
