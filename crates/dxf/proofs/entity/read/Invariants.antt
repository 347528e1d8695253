-- After some turns the entity, if there is one, begins in the rest.
use mathlib.Core.Path.{◌≡◌}
use lib.ListN.{length}
use Rattle.dxf.specs.Item.{items_in}
use Rattle.dxf.specs.Entity.{entity_of}
use Rattle.dxf.proofs.entity.read.Given as goal

abbrev pub invariant-loop-entry : goal.invariant-loop-entry
invariant-loop-entry l = entity_of (items_in l.text) ≡ entity_of (items_in l.rest)

abbrev pub decreases-loop-entry : goal.decreases-loop-entry
decreases-loop-entry l = length l.rest
