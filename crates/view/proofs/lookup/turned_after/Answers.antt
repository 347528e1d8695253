-- The two vertices by their promises.
use Rattle.view.proofs.lookup.turned_after.Goals as goal

pub returns : goal.returns
returns c =
    simp (c.with_bulge.ensures, c.vertex-from.ensures, c.vertex_past-next.ensures)
