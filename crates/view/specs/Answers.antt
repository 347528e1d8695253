-- What each public call answers, as a chain of refusals in document 01's order and then the value, and what a lent buffer holds afterwards.
use Rattle.std.specs.Prelude.{ℕ, ◌&&◌, List, ◌++◌, length, drop, ltb, leb, Float}
use Rattle.real.specs.Refusal.{bad_number, bad_outline, bad_index, lacks_room, bad_trim}
use Rattle.real.specs.Reply.{Reply, refused, given, check}
use Rattle.plane.specs.Grade.{Grade}
use Rattle.plane.specs.declared.pline_vertex.PlineVertex.{PlineVertex}
use Rattle.lists.specs.Plain.{flat}
use Rattle.view.specs.Outline.{viewable}
use Rattle.view.specs.Record.{turned_of, trimmed_of, vertices, needed, record_vertex_of, listed, record_ok, reads_ok}
use Rattle.view.specs.Check.{place_of, check_of, even_of}
use Rattle.view.specs.declared.view_data.PlineViewData.{PlineViewData}

-- what a buffer holds after a call: "a refused call writes nothing"
unfoldable pub buffer_after : {A : Type 0} → Reply A → List Float → List Float → List Float
buffer_after (refused n) before after = before
buffer_after (given a) before after = after

module _ (g : Grade) (s : List Float) (d : PlineViewData) where
  -- position k of a view: 3, 5, 4, 1, where "its number check, over the record and those vertices, therefore comes last"
  unfoldable pub get_vertex_of : ℕ → Reply PlineVertex
  get_vertex_of k =
      check (viewable s) bad_outline
      (place_of s d
      (check (ltb k (vertices d)) bad_index
      (check (record_ok g d && reads_ok g s d k) bad_number
      (given (record_vertex_of g s d k)))))

  -- how many vertices a view has: 3, 1, 5, 4
  unfoldable pub vertex_count_of : Reply ℕ
  vertex_count_of = check_of g s d (given (vertices d))

  -- the list in a lent buffer of m numbers: 3, 1, 5, 4, 8; the answer is the count
  unfoldable pub list_of : ℕ → Reply ℕ
  list_of m = check_of g s d (check (leb (needed d) m) lacks_room (given (vertices d)))

  -- the buffer afterwards: the list in threes from its start, "where places past the list keep what they held"
  unfoldable pub written : List Float → List Float
  written out = flat (listed g s d) ++ drop (needed d) out

  unfoldable pub list_buffer : List Float → List Float
  list_buffer out = buffer_after (list_of (length out)) out (written out)

  -- the record turned round: 3, 1, 5, 4, 7
  unfoldable pub reverse_of : Reply PlineViewData
  reverse_of = even_of g s d (given (turned_of d))

  -- the record of positions i to j: 3, 1, 5, 4, 7, 9, where 9 is "trim without 0 <= i < j <= offset + 1"
  unfoldable pub trim_of : ℕ → ℕ → Reply PlineViewData
  trim_of i j = even_of g s d (check (ltb i j && ltb j (vertices d)) bad_trim (given (trimmed_of g s d i j)))
