-- "a listing writes exactly offset + 2 vertices", of the two buffers that `bf_view_list` is lent: before a call that answers, and after it. proofs/Exact.antt proves it of each such call.
use Rattle.std.specs.Prelude.{◌≡◌, List, ◌∷◌, ◌+◌, ◌*◌, length, take, drop, Float}
use Rattle.plane.specs.Grade.{double}
use Rattle.lists.specs.Plain.{flat}
use Rattle.view.specs.Record.{listed}
use Rattle.view.specs.declared.view_data.PlineViewData.{PlineViewData}
use Rattle.lent.specs.Lent.{Both}

pub record ListsExactly (s : List Float) (d : PlineViewData) (before after : Both) : Type 0 where
  -- what the count says
  pub count : after.words ≡ (d.end_index_offset + 2) ∷ drop 1 before.words
  -- the numbers begin with the list's, three to a vertex, and every place past those is as it was
  pub written : take (3 * (d.end_index_offset + 2)) after.numbers ≡ flat (listed double s d)
  pub kept : drop (3 * (d.end_index_offset + 2)) after.numbers ≡ drop (3 * (d.end_index_offset + 2)) before.numbers
  pub size : length after.numbers ≡ length before.numbers
