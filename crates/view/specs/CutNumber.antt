-- The cut number stands beside the view, which is the crate's fields: no call reads it, and reversal and trim hand it on. proofs/CutNumber.antt proves it of
-- every record, refused or not.
use Rattle.std.specs.Prelude.{◌≡◌, Bool, List, ℕ, Float}
use Rattle.real.specs.Reply.{Reply, refused, given}
use Rattle.plane.specs.Grade.{Grade}
use Rattle.lists.specs.Plain.{Step}
use Rattle.view.specs.Record.{view_of, data_of}
use Rattle.view.specs.Answers.{get_vertex_of, vertex_count_of, list_of, list_buffer, reverse_of, trim_of}
use Rattle.view.specs.Validation.{validate_of, validate_counted, mark_answer}
use Rattle.view.specs.Rows.{row}
use Rattle.view.specs.declared.view_data.PlineViewData.{PlineViewData}

-- d's view under the cut number n
abbrev pub with_number : ℕ → PlineViewData → PlineViewData
with_number n d = data_of n (view_of d)

-- an answer with its record under the cut number n
abbrev pub reply_with : ℕ → Reply PlineViewData → Reply PlineViewData
reply_with n (refused r) = refused r
reply_with n (given d) = given (with_number n d)

-- what the calls answer to d under any cut number n
pub record Beside (g : Grade) (limit : Float) (s : List Float) (d : PlineViewData) (n : ℕ) : Type 0 where
  -- "Demand 2 compares the crate's fields only": the same vertices, list, verdict with its roots, and mark
  pub vertex : (k : ℕ) → get_vertex_of g s (with_number n d) k ≡ get_vertex_of g s d k
  pub count : vertex_count_of g s (with_number n d) ≡ vertex_count_of g s d
  pub list : (m : ℕ) → list_of g s (with_number n d) m ≡ list_of g s d m
  pub buffer : (out : List Float) → list_buffer g s (with_number n d) out ≡ list_buffer g s d out
  pub verdict : validate_counted g limit s (with_number n d) ≡ validate_counted g limit s d
  pub mark : (closed : Bool) → mark_answer closed s (with_number n d) (validate_of g limit s (with_number n d)) ≡ mark_answer closed s d (validate_of g limit s d)
  -- "Reversal and trim keep it": the same record, under that number
  pub reversed : reverse_of g s (with_number n d) ≡ reply_with n (reverse_of g s d)
  pub trimmed : (i j : ℕ) → trim_of g s (with_number n d) i j ≡ reply_with n (trim_of g s d i j)
  -- "no row of steps changes the number"
  pub rows : (ts : List Step) → row g s ts (with_number n d) ≡ with_number n (row g s ts d)
