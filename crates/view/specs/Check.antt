-- The checks that the view calls share, as chains of refusals in document 01's order, each before the rest of an answer.
use Rattle.std.specs.Prelude.{◌&&◌, List, ltb, leb, Float}
use Rattle.real.specs.Refusal.{bad_number, bad_outline, bad_index, bad_offset, uneven_bulges}
use Rattle.real.specs.Reply.{Reply, given, check}
use Rattle.plane.specs.Grade.{Grade}
use Rattle.view.specs.Outline.{count_of, viewable, numbers_ok}
use Rattle.view.specs.Record.{record_ok, even_bits}
use Rattle.view.specs.declared.view_data.PlineViewData.{PlineViewData}

-- the code's answer to a check; one that passes has nothing to say but that
abbrev pub pass : Reply (Unit {0})
pass = given tt

module _ {A : Type 0} where
  -- 5, then 4: "offset above the vertex count", "start .. index not below the vertex count"
  unfoldable pub place_of : List Float → PlineViewData → Reply A → Reply A
  place_of s d rest = check (leb d.end_index_offset (count_of s)) bad_offset (check (ltb d.start_index (count_of s)) bad_index rest)

  -- 3, 1, 5, 4: what every view call checks first, but lookup by position and validation. "All other view calls check the whole outline."
  unfoldable pub check_of : Grade → List Float → PlineViewData → Reply A → Reply A
  check_of g s d rest = check (viewable s) bad_outline (check (numbers_ok g s && record_ok g d) bad_number (place_of s d rest))

  -- 3, 1, 5, 4, 7: what reversal and trim check first; 7 is "offset 0 and bulges of unequal bits"
  unfoldable pub even_of : Grade → List Float → PlineViewData → Reply A → Reply A
  even_of g s d rest = check_of g s d (check (even_bits g d) uneven_bulges rest)
