-- The tests are the definition's, with each vector by its promise.
use mathlib.Core.Path.{◌≡◌}
use Rattle.plane.specs.Grade.{double}
use Rattle.plane.specs.Vec.{vsub_of, dot_of}
use Rattle.seg.specs.Distance.{line_far_of}
use Rattle.seg.proofs.distance.line_far.Goals as goal
use Rattle.seg.proofs.distance.line_far.Goals.{After-dot-projection}

projected : (c : After-dot-projection) → let a = c.args in c.dot-projection.result ≡ dot_of double (vsub_of double a.p a.start) (vsub_of double a.end a.start)
projected c = simp (c.sub-chord.ensures, c.sub-point_offset.ensures) at c.dot-projection.ensures

pub returns-then-projection : goal.returns-then-projection
unfolding line_far_of
returns-then-projection c =
    simp (c.sub-point_offset.ensures, simp (projected c.before.before) at c.if-projection.true, c.length_squared.ensures)

pub returns-then-chord_length_squared-projection : goal.returns-then-chord_length_squared-projection
unfolding line_far_of
returns-then-chord_length_squared-projection c =
    let past1 = simp (projected c.before.before.before.before.before) at c.if-projection.false in
    let past2 = simp (c.sub-chord.ensures, projected c.before.before.before.before.before, c.length_squared-chord_length_squared.ensures) at c.if-chord_length_squared-projection.true in
    simp (past1, past2, c.sub.ensures, c.length_squared-then-chord_length_squared-projection.ensures)

pub returns : goal.returns
unfolding line_far_of
returns c =
    let past1 = simp (projected c.before.before.before.before) at c.if-projection.false in
    let past2 = simp (c.sub-chord.ensures, projected c.before.before.before.before, c.length_squared-chord_length_squared.ensures) at c.if-chord_length_squared-projection.false in
    simp (c.sub-chord.ensures, c.sub-point_offset.ensures, past1, c.length_squared-chord_length_squared.ensures, past2, c.perp_dot-cross.ensures)
