-- Each return is the definition's link whose test the code made; the last is the place's own check.
use Rattle.real.proofs.Pick.{picks}
use Rattle.view.specs.Check.{check_of}
use Rattle.view.proofs.check.check_view.Goals as goal

pub returns-then-not-serves_views : goal.returns-then-not-serves_views
unfolding check_of
returns-then-not-serves_views c = search picks

pub returns-then-not-numbers_in_range : goal.returns-then-not-numbers_in_range
unfolding check_of
returns-then-not-numbers_in_range c = search picks

pub returns : goal.returns
unfolding check_of
returns c = search picks
