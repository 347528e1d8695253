-- No answer's definition reads the cut number, and the records of reversal and trim have their record's: so it goes through every check, step and row.
use mathlib.Core.Path.{◌≡◌, refl, ap, ◌∙◌}
use mathlib.Core.Bool.{Bool, true, false, ◌&&◌}
use mathlib.Core.List.{List, [], ◌∷◌}
use Prim.Native.Nat.{ℕ}
use lib.Dec.{ltb, leb}
use lib.Ieee.{Float}
use Rattle.real.specs.Refusal.{bad_number, bad_outline, bad_index, bad_offset, uneven_bulges, bad_trim}
use Rattle.real.specs.Reply.{Reply, refused, given, check}
use Rattle.plane.specs.Grade.{Grade}
use Rattle.lists.specs.Plain.{Step, turn, trim}
use Rattle.view.specs.Outline.{count_of, viewable, numbers_ok}
use Rattle.view.specs.Record.{turned_of, trimmed_of, vertices, even_bits, record_ok, reads_ok}
use Rattle.view.specs.Check.{place_of, check_of, even_of}
use Rattle.view.specs.Answers.{get_vertex_of, vertex_count_of, list_of, list_buffer, written, reverse_of, trim_of}
use Rattle.view.specs.Validation.{Verdict, bulges_match_of, end_verdict, placed_by, counts_by, validate_by, validate_of, across_gap, mark_of, mark_answer}
use Rattle.view.specs.Rows.{after, step, row}
use Rattle.view.specs.CutNumber.{with_number, reply_with, Beside}
use Rattle.view.specs.declared.view_data.PlineViewData.{PlineViewData}

-- a chain of tests, each with its refusal
checks : List (Bool × ℕ) → Reply PlineViewData → Reply PlineViewData
checks [] x = x
checks (t ∷ ts) x = check t.0 t.1 (checks ts x)

module _ (n : ℕ) where
  through : (ts : List (Bool × ℕ)) (x : Reply PlineViewData) → checks ts (reply_with n x) ≡ reply_with n (checks ts x)
  unfolding checks
  through [] x = refl
  through ((true, m) ∷ ts) x = through ts x
  through ((false, m) ∷ ts) x = refl

  after_with : (d : PlineViewData) (r : Reply PlineViewData) → after (with_number n d) (reply_with n r) ≡ with_number n (after d r)
  after_with d (given x) = refl
  after_with d (refused m) = refl

module _ (g : Grade) (s : List Float) (n : ℕ) where
  -- what reversal and trim check
  abbrev tests : PlineViewData → List (Bool × ℕ) → List (Bool × ℕ)
  tests d ts =
      (viewable s, bad_outline) ∷ (numbers_ok g s && record_ok g d, bad_number) ∷ (leb d.end_index_offset (count_of s), bad_offset) ∷ (ltb d.start_index (count_of s), bad_index)
      ∷ (even_bits g d, uneven_bulges) ∷ ts

  reversed : (d : PlineViewData) → reverse_of g s (with_number n d) ≡ reply_with n (reverse_of g s d)
  unfolding reverse_of even_of check_of place_of record_ok even_bits checks
  reversed d = through n (tests d []) (given (turned_of d))

  trimmed : (d : PlineViewData) (i j : ℕ) → trim_of g s (with_number n d) i j ≡ reply_with n (trim_of g s d i j)
  unfolding trim_of even_of check_of place_of record_ok even_bits checks
  trimmed d i j = through n (tests d ((ltb i j && ltb j (vertices d), bad_trim) ∷ [])) (given (trimmed_of g s d i j))

  step_with : (t : Step) (d : PlineViewData) → step g s t (with_number n d) ≡ with_number n (step g s t d)
  unfolding step
  step_with turn d = ap (after (with_number n d)) (reversed d) ∙ after_with n d (reverse_of g s d)
  step_with (trim i j) d = ap (after (with_number n d)) (trimmed d i j) ∙ after_with n d (trim_of g s d i j)

  rows : (ts : List Step) (d : PlineViewData) → row g s ts (with_number n d) ≡ with_number n (row g s ts d)
  unfolding row
  rows [] d = refl
  rows (t ∷ ts) d = ap (row g s ts) (step_with t d) ∙ rows ts (step g s t d)

  marked : (d : PlineViewData) (closed : Bool) (r : Reply Verdict) → mark_answer closed s (with_number n d) r ≡ mark_answer closed s d r
  unfolding mark_of across_gap
  marked d closed (refused m) = refl
  marked d closed (given v) = refl

pub beside : (g : Grade) (limit : Float) (s : List Float) (d : PlineViewData) (n : ℕ) → Beside g limit s d n
unfolding get_vertex_of vertex_count_of list_of list_buffer written place_of check_of record_ok reads_ok validate_by counts_by placed_by end_verdict bulges_match_of
beside g limit s d n =
    record {
      vertex = λ k. refl;
      count = refl;
      list = λ m. refl;
      buffer = λ out. refl;
      verdict = refl;
      mark = λ closed. marked g s n d closed (validate_of g limit s d);
      reversed = reversed g s n d;
      trimmed = trimmed g s n d;
      rows = λ ts. rows g s n ts d;
    }

-- "no row of steps changes the number", of any record, any row, and refused steps too
pub row_number : (g : Grade) (s : List Float) (ts : List Step) (d : PlineViewData) → (row g s ts d).cut_number ≡ d.cut_number
row_number g s ts d = ap (λ (r : PlineViewData). r.cut_number) (rows g s d.cut_number ts d)
