-- The two tests are the definition's.
use Rattle.real.proofs.Pick.{picks}
use Rattle.view.specs.Outline.{viewable}
use Rattle.view.proofs.outline.serves_views.Goals as goal

pub returns-then-outline_is_whole : goal.returns-then-outline_is_whole
unfolding viewable
returns-then-outline_is_whole c = search picks

pub returns-else-outline_is_whole : goal.returns-else-outline_is_whole
unfolding viewable
returns-else-outline_is_whole c = search picks
