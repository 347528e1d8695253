-- Each return is the place of `Views` that the tests before it show.
use mathlib.Core.Path.{◌≡◌}
use Prim.Native.Nat.{◌+◌}
use native.Mathlib.Omega.{arith}
use Rattle.plane.specs.Grade.{double}
use Rattle.view.specs.Outline.{src_of, count_of}
use Rattle.view.specs.Record.{view_of}
use Rattle.lists.proofs.Views.{at_first, at_inner, at_final, at_past}
use Rattle.view.proofs.placed.PlacedView.forward.Goals as goal

pub returns-then-k-eq0 : goal.returns-then-k-eq0
returns-then-k-eq0 c =
    let a = c.args in
    let s = a.self.outline.numbers.now in
    simp (c.if-k-eq0.true, at_first double.zero (src_of s) (count_of s) (view_of a.self.view))

pub returns-then-k-offset : goal.returns-then-k-offset
returns-then-k-offset c =
    let a = c.args in
    let s = a.self.outline.numbers.now in
    simp (c.vertex_past.ensures, at_inner double.zero (src_of s) (count_of s) (view_of a.self.view) a.k (omega arith) (omega arith))

pub returns-then-k-offset-2 : goal.returns-then-k-offset-2
returns-then-k-offset-2 c =
    let a = c.args in
    let s = a.self.outline.numbers.now in
    simp (c.with_bulge.ensures, c.vertex_past-then-k-offset-2.ensures, c.if-k-offset-2.true, at_final double.zero (src_of s) (count_of s) (view_of a.self.view) (omega arith))

pub returns : goal.returns
returns c =
    let a = c.args in
    let s = a.self.outline.numbers.now in
    let e : a.k ≡ a.self.view.end_index_offset + 1 = omega arith in
    simp (c.from_vector2.ensures, e, at_past double.zero (src_of s) (count_of s) (view_of a.self.view))
