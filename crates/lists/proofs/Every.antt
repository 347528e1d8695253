-- What holds of each member of two lists holds of each of both, and of each where one more takes a place.
use mathlib.Core.List.{List, [], ◌∷◌, ◌++◌}
use Prim.Native.Nat.{ℕ, zero, suc}
use lib.ListN.{set}
use Rattle.lists.specs.Every.{Every}

module _ {A : Type 0} (P : A → Type 0) where
  pub every_append : (a b : List A) → Every P a → Every P b → Every P (a ++ b)
  unfolding Every
  every_append [] b p q = q
  every_append (x ∷ a) b p q = (p.0, every_append a b p.1 q)

  pub every_set : (l : List A) (i : ℕ) (z : A) → Every P l → P z → Every P (set l i z)
  unfolding Every
  every_set [] i z p h = p
  every_set (x ∷ l) zero z p h = (h, p.1)
  every_set (x ∷ l) (suc i) z p h = (p.0, every_set l i z p.1 h)
