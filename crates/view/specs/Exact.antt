-- "Prove also that a listing writes exactly offset + 2 vertices": of the list of d over s into the buffer out, when it answers n. proofs/Exact.antt proves it of each that does.
use Rattle.std.specs.Prelude.{◌≡◌, List, ℕ, ◌+◌, ◌*◌, length, take, drop, Float}
use Rattle.plane.specs.Grade.{Grade}
use Rattle.lists.specs.Plain.{flat}
use Rattle.view.specs.Record.{listed}
use Rattle.view.specs.Answers.{list_buffer}
use Rattle.view.specs.declared.view_data.PlineViewData.{PlineViewData}

pub record WritesExactly (g : Grade) (s : List Float) (d : PlineViewData) (out : List Float) (n : ℕ) : Type 0 where
  -- the count says so, and so many are in the list
  pub count : n ≡ d.end_index_offset + 2
  pub vertices : length (listed g s d) ≡ d.end_index_offset + 2
  -- the buffer begins with their numbers, three to a vertex, and every place past those is as it was
  pub written : take (3 * (d.end_index_offset + 2)) (list_buffer g s d out) ≡ flat (listed g s d)
  pub kept : drop (3 * (d.end_index_offset + 2)) (list_buffer g s d out) ≡ drop (3 * (d.end_index_offset + 2)) out
  pub size : length (list_buffer g s d out) ≡ length out
