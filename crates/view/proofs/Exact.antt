-- A listing that is given had room, its answer is the count, and the buffer is the list and what lay past it.
use mathlib.Core.Path.{◌≡◌, sym, ap, ◌∙◌}
use mathlib.Core.List.{List, ◌++◌}
use Prim.Native.Nat.{ℕ, ◌≤◌}
use native.Mathlib.Omega.{arith}
use lib.ListN.{length, take, drop, length-append, length-drop}
use lib.Seq.{take_at, drop_at}
use lib.Ieee.{Float}
use borrow.Author.Tests.{leb-true}
use Rattle.real.specs.Refusal.{lacks_room}
use Rattle.real.specs.Reply.{Reply, given}
use Rattle.real.proofs.Replies.{same_given, check_passed}
use Rattle.plane.specs.Grade.{Grade}
use Rattle.lists.specs.Plain.{flat}
use Rattle.view.specs.Record.{vertices, needed, listed}
use Rattle.view.specs.Answers.{buffer_after, list_of, written, list_buffer}
use Rattle.view.specs.Exact.{WritesExactly}
use Rattle.view.specs.declared.view_data.PlineViewData.{PlineViewData}
use Rattle.view.proofs.Checks.{checked, checked_rest}
use Rattle.view.proofs.Shape.{list_count, list_numbers}

-- n values in front of a buffer with room for them
pub record InFront (l out after : List Float) (n : ℕ) : Type 0 where
  pub written : take n after ≡ l
  pub kept : drop n after ≡ drop n out
  pub size : length after ≡ length out

pub in_front_law : (l out : List Float) (n : ℕ) → length l ≡ n → n ≤ length out → InFront l out (l ++ drop n out) n
in_front_law l out n e h =
    record {
      written = take_at l (drop n out) n e;
      kept = drop_at l (drop n out) n e;
      size =
          let a = length-append l (drop n out) in
          let b = length-drop n out in
          omega (arith, a, b, e, h);
    }

module _ (g : Grade) (s : List Float) (d : PlineViewData) (out : List Float) (n : ℕ) (e : list_of g s d (length out) ≡ given n) where
  answered : (needed d ≤ length out) × (n ≡ vertices d)
  unfolding list_of
  answered = let q = check_passed lacks_room _ (sym e ∙ checked_rest g s d _ (checked g s d _ (sym e))) in (leb-true _ _ q.0, same_given q.1)

  buffer : list_buffer g s d out ≡ flat (listed g s d) ++ drop (needed d) out
  unfolding list_buffer written buffer_after
  buffer = ap (λ (r : Reply ℕ). buffer_after r out (written g s d out)) e

  pub writes_exactly : WritesExactly g s d out n
  writes_exactly =
      let f : InFront (flat (listed g s d)) out (list_buffer g s d out) (needed d) = rw buffer (in_front_law (flat (listed g s d)) out (needed d) (list_numbers g s d) answered.0) in
      record { count = answered.1; vertices = list_count g s d; written = f.written; kept = f.kept; size = f.size }
