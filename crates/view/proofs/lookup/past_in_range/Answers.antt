-- The range test of the vertex at the wrapped number.
use Rattle.view.specs.Record.{past_ok}
use Rattle.view.proofs.lookup.past_in_range.Goals as goal

pub returns : goal.returns
unfolding past_ok
returns c = simp c.vertex_past.ensures at c.vertex_in_range.ensures

pub vertex_past-requires : goal.vertex_past-requires
vertex_past-requires c = c.requires
