-- P holds of each member of a list.
use Rattle.std.specs.Prelude.{List, [], ◌∷◌}

unfoldable pub Every : {A : Type 0} → (A → Type 0) → List A → Type 0
Every P [] = Unit
Every P (x ∷ l) = P x × Every P l
