-- The pattern and the guard are the definition's tests, in its order.
use mathlib.Core.Path.{refl}
use native.Mathlib.Omega.{arith}
use lib.ListN.{length}
use borrow.Author.Tests.{eq-eqb, ne_eqb}
use Rattle.real.proofs.Pick.{bad, good}
use Rattle.plane.specs.From.{vertex_from}
use Rattle.plane.proofs.pline_vertex.vertex_from_slice.Goals as goal

pub returns-in_default : goal.returns-in_default
unfolding vertex_from
returns-in_default c = simp (ne_eqb (length c.args.slice.now) 3 (λ e. omega (arith, e, c.in_default.len_below)))

pub returns-in_default-2 : goal.returns-in_default-2
unfolding vertex_from
returns-in_default-2 c = simp (ne_eqb (length c.args.slice.now) 3 (λ e. omega (arith, e, c.in_default.len_at_least)))

pub returns-then-not-vertex_in_range : goal.returns-then-not-vertex_in_range
unfolding vertex_from
returns-then-not-vertex_in_range c =
    simp (eq-eqb (length c.args.slice.now) 3 (omega (arith, c.in-len3))) (bad _ c.vertex_in_range.ensures c.if-not-vertex_in_range.true refl)

pub returns : goal.returns
unfolding vertex_from
returns c =
    simp (eq-eqb (length c.args.slice.now) 3 (omega (arith, c.in-len3))) (good _ c.vertex_in_range.ensures c.if-not-vertex_in_range.false refl)
