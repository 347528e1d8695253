-- Two tallies are one: so are their values and their roots. And a tally tells the code's answer.
use mathlib.Core.Path.{◌≡◌, ap}
use Rattle.real.specs.Tally.{Tally, tally_of}
use Rattle.real.specs.declared.square_root.Rooted.{Rooted}

pub value_of : {A : Type 0} {t u : Tally A} → t ≡ u → t.value ≡ u.value
value_of {A = A} e = ap (λ (t : Tally A). t.value) e

pub roots_of : {A : Type 0} {t u : Tally A} → t ≡ u → t.roots ≡ u.roots
roots_of {A = A} e = ap (λ (t : Tally A). t.roots) e

pub rooted_same : {A : Type 0} (a b : Rooted A) → tally_of a ≡ tally_of b → a ≡ b
rooted_same {A = A} a b e = ap {B = Rooted A} (λ (t : Tally A). record { value = t.value; roots = t.roots }) e
