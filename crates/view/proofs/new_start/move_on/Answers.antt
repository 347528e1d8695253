-- The fuzzy test is the definition's, on the next vertex by its promise.
use mathlib.Core.Path.{refl}
use Rattle.real.proofs.Pick.{yes, no}
use Rattle.view.specs.Create.{moved_on}
use Rattle.view.proofs.new_start.move_on.Goals as goal

pub returns-then-fuzzy_eq_eps : goal.returns-then-fuzzy_eq_eps
unfolding moved_on
returns-then-fuzzy_eq_eps c =
    record {
      is = yes _ (simp (c.pos.ensures, c.vertex-v.ensures, c.fwd_wrapping_index-next.ensures.is) at c.fuzzy_eq_eps.ensures) c.if-fuzzy_eq_eps.true c.fwd_wrapping_index-next.ensures.is;
      below = c.fwd_wrapping_index-next.ensures.below;
    }

pub returns-else-fuzzy_eq_eps : goal.returns-else-fuzzy_eq_eps
unfolding moved_on
returns-else-fuzzy_eq_eps c =
    record {
      is = no _ (simp (c.pos.ensures, c.vertex-v.ensures, c.fwd_wrapping_index-next.ensures.is) at c.fuzzy_eq_eps.ensures) c.if-fuzzy_eq_eps.false refl;
      below = c.requires;
    }
