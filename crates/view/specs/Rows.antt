-- A row of reversals and trims of a record, each step by the library's own answer: a refused step changes nothing.
use Rattle.std.specs.Prelude.{List, [], ◌∷◌, Float}
use Rattle.real.specs.Reply.{Reply, refused, given}
use Rattle.plane.specs.Grade.{Grade}
use Rattle.lists.specs.Plain.{Step, turn, trim}
use Rattle.view.specs.Answers.{reverse_of, trim_of}
use Rattle.view.specs.declared.view_data.PlineViewData.{PlineViewData}

abbrev pub after : PlineViewData → Reply PlineViewData → PlineViewData
after d (given r) = r
after d (refused n) = d

module _ (g : Grade) (s : List Float) where
  unfoldable pub step : Step → PlineViewData → PlineViewData
  step turn d = after d (reverse_of g s d)
  step (trim i j) d = after d (trim_of g s d i j)

  unfoldable pub row : List Step → PlineViewData → PlineViewData
  row [] d = d
  row (t ∷ ts) d = row ts (step t d)
