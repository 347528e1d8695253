-- The root of the squared length, by both promises.
use Rattle.plane.proofs.vector2.Vector2.length.Goals as goal

pub returns : goal.returns
returns c = simp (c.length_squared.ensures, c.root.ensures)
