-- A sound outline: what a reader of outlines has to give, and what every call on outlines takes without refusing a number.
use Rattle.std.specs.Prelude.{true, ◌≡◌, List, length, T, Float}
use Rattle.std.specs.Float.{binary64}
use Rattle.std.specs.Float.Ieee.{fits}
use Rattle.plane.specs.Grade.{double}
use Rattle.plane.specs.Range.{whole_outline}
use Rattle.lists.specs.Every.{Every}
use Rattle.view.specs.Outline.{numbers_ok}

abbrev pub Held : Float → Type 0
Held x = T (fits binary64 x)

-- whole vertices and not too many, each in range, and f64 as every number that a program holds
pub record SoundOutline (s : List Float) : Type 0 where
  pub whole : whole_outline (length s) ≡ true
  pub numbers : numbers_ok double s ≡ true
  pub held : Every Held s
