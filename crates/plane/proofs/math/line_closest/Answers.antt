-- The two end tests are the definition's; between them, the scaled chord by its promise.
use Rattle.real.proofs.Pick.{picks}
use Rattle.plane.proofs.math.line_closest.Goals as goal

pub returns : goal.returns
returns c =
    simp (c.if-projection.false, c.if-chord_length_squared-projection.false, c.scale.ensures, c.add.ensures)

pub returns-then-projection : goal.returns-then-projection
returns-then-projection c = search picks

pub returns-then-chord_length_squared-projection : goal.returns-then-chord_length_squared-projection
returns-then-chord_length_squared-projection c = search picks
