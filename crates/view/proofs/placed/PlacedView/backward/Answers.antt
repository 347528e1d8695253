-- Each return is the place of `Views` that the tests before it show.
use native.Mathlib.Omega.{arith}
use lib.Ieee.{neg}
use Rattle.plane.specs.Grade.{double}
use Rattle.view.specs.Outline.{src_of, count_of}
use Rattle.view.specs.Record.{view_of}
use Rattle.lists.proofs.Views.{back_first, back_inner, back_final, back_past}
use Rattle.view.proofs.placed.PlacedView.backward.Goals as goal

pub returns-then-k-eq0 : goal.returns-then-k-eq0
returns-then-k-eq0 c =
    let a = c.args in
    let s = a.self.outline.numbers.now in
    simp (c.from_vector2.ensures, c.if-k-eq0.true, back_first neg double.zero (src_of s) (count_of s) (view_of a.self.view))

pub returns-then-k-offset : goal.returns-then-k-offset
returns-then-k-offset c =
    let a = c.args in
    let s = a.self.outline.numbers.now in
    simp (c.turned_after.ensures, c.fwd_wrapping_index.ensures.is, back_inner neg double.zero (src_of s) (count_of s) (view_of a.self.view) a.k (omega arith) (omega arith))

pub returns-then-k-offset-2 : goal.returns-then-k-offset-2
returns-then-k-offset-2 c =
    let a = c.args in
    let s = a.self.outline.numbers.now in
    simp (c.with_bulge.ensures, c.vertex_past.ensures, back_final neg double.zero (src_of s) (count_of s) (view_of a.self.view) a.k (omega arith) c.if-k-offset-2.true)

pub returns : goal.returns
returns c =
    let a = c.args in
    let s = a.self.outline.numbers.now in
    simp (c.with_bulge-2.ensures, back_past neg double.zero (src_of s) (count_of s) (view_of a.self.view) a.k (omega arith))
