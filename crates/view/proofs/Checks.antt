-- What it says that an outline and a record pass the checks, and that a check's answer is that of every chain that begins with it.
use mathlib.Core.Path.{◌≡◌, ◌∙◌}
use mathlib.Core.Bool.{true, ◌&&◌}
use mathlib.Core.List.{List}
use Prim.Native.Nat.{ℕ, ◌%◌, ◌<◌, ◌≤◌}
use lib.ListN.{length}
use lib.Dec.{ltb, leb, eqb}
use lib.Ieee.{Float}
use borrow.Author.Tests.{ltb-true, leb-true, lt-ltb, le-leb}
use Rattle.real.specs.Refusal.{bad_number, bad_outline, bad_index, bad_offset, uneven_bulges}
use Rattle.real.specs.Reply.{Reply, refused, given}
use Rattle.real.proofs.Replies.{never_given, check_passed, check_refused, and_both}
use Rattle.plane.specs.Grade.{Grade}
use Rattle.plane.specs.Range.{most_vertices, whole_outline, vertex_ok}
use Rattle.view.specs.Outline.{vertex_value, count_of, viewable, numbers_ok}
use Rattle.view.specs.Record.{record_ok, even_bits}
use Rattle.view.specs.Needs.{Placed}
use Rattle.view.specs.Check.{pass, place_of, check_of, even_of}
use Rattle.view.specs.declared.view_data.PlineViewData.{PlineViewData}
use Rattle.view.proofs.All.{all_each}

no_refusal : {A : Type 0} (m : ℕ) (rest : Reply A) → refused m ≡ pass → refused m ≡ rest
no_refusal m rest e = never_given e

pub few_of_whole : (s : List Float) → whole_outline (length s) ≡ true → count_of s ≤ most_vertices
unfolding whole_outline
few_of_whole s e = leb-true _ _ (and_both (eqb (length s % 3) 0) _ e).1

pub viewable_in : (s : List Float) → viewable s ≡ true → (2 ≤ count_of s) × (count_of s ≤ most_vertices)
unfolding viewable
viewable_in s e = let a = and_both (whole_outline (length s)) _ e in (leb-true _ _ a.1, few_of_whole s a.0)

pub vertex_in : (g : Grade) (s : List Float) → numbers_ok g s ≡ true → (k : ℕ) → k < count_of s → vertex_ok g (vertex_value s k) ≡ true
unfolding numbers_ok
vertex_in g s = all_each (λ k. vertex_ok g (vertex_value s k)) (count_of s)

module _ (s : List Float) (d : PlineViewData) where
  place_on : {A : Type 0} (m : ℕ) (x : Reply (Unit {0})) (rest : Reply A) → (refused m ≡ x → refused m ≡ rest) → refused m ≡ place_of s d x → refused m ≡ place_of s d rest
  unfolding place_of
  place_on m x rest f = check_refused (leb d.end_index_offset (count_of s)) m bad_offset _ _ (check_refused (ltb d.start_index (count_of s)) m bad_index x rest f)

  pub place_refused : {A : Type 0} (m : ℕ) (rest : Reply A) → refused m ≡ place_of s d pass → refused m ≡ place_of s d rest
  place_refused m rest = place_on m pass rest (no_refusal m rest)

  pub place_placed : {A : Type 0} {a : A} (rest : Reply A) → viewable s ≡ true → given a ≡ place_of s d rest → Placed s d
  unfolding place_of
  place_placed rest v e =
      let a = check_passed bad_offset _ e in
      let b = check_passed bad_index _ a.1 in
      let h = viewable_in s v in
      record { few = h.1; two = h.0; start = ltb-true _ _ b.0; offset = leb-true _ _ a.0 }

  pub place_rest : {A : Type 0} (rest : Reply A) → Placed s d → place_of s d rest ≡ rest
  unfolding place_of
  place_rest rest p = simp (le-leb _ _ p.offset, lt-ltb _ _ p.start)

-- all that the view calls check, and what reversal and trim check besides
pub record Checked (g : Grade) (s : List Float) (d : PlineViewData) : Type 0 where
  pub outline : viewable s ≡ true
  pub numbers : numbers_ok g s ≡ true
  pub record_in : record_ok g d ≡ true
  pub placed : Placed s d

pub record Evened (g : Grade) (s : List Float) (d : PlineViewData) : Type 0 where
  pub clear : Checked g s d
  pub even : even_bits g d ≡ true

module _ (g : Grade) (s : List Float) (d : PlineViewData) where
  checked_on : {A : Type 0} (m : ℕ) (x : Reply (Unit {0})) (rest : Reply A) → (refused m ≡ x → refused m ≡ rest) → refused m ≡ check_of g s d x → refused m ≡ check_of g s d rest
  unfolding check_of
  checked_on m x rest f = check_refused (viewable s) m bad_outline _ _ (check_refused (numbers_ok g s && record_ok g d) m bad_number _ _ (place_on s d m x rest f))

  pub checked_refused : {A : Type 0} (m : ℕ) (rest : Reply A) → refused m ≡ check_of g s d pass → refused m ≡ check_of g s d rest
  checked_refused m rest = checked_on m pass rest (no_refusal m rest)

  pub checked : {A : Type 0} {a : A} (rest : Reply A) → given a ≡ check_of g s d rest → Checked g s d
  unfolding check_of
  checked rest e =
      let a = check_passed bad_outline _ e in
      let b = check_passed bad_number _ a.1 in
      let n = and_both (numbers_ok g s) (record_ok g d) b.0 in
      record { outline = a.0; numbers = n.0; record_in = n.1; placed = place_placed s d rest a.0 b.1 }

  pub checked_rest : {A : Type 0} (rest : Reply A) → Checked g s d → check_of g s d rest ≡ rest
  unfolding check_of
  checked_rest rest c = simp (c.outline, c.numbers, c.record_in, place_rest s d rest c.placed)

  pub even_refused : {A : Type 0} (m : ℕ) (rest : Reply A) → refused m ≡ even_of g s d pass → refused m ≡ even_of g s d rest
  unfolding even_of
  even_refused m rest = checked_on m _ _ (check_refused (even_bits g d) m uneven_bulges pass rest (no_refusal m rest))

  pub evened : {A : Type 0} {a : A} (rest : Reply A) → given a ≡ even_of g s d rest → Evened g s d
  unfolding even_of
  evened rest e = let c = checked _ e in record { clear = c; even = (check_passed uneven_bulges rest (e ∙ checked_rest _ c)).0 }

  pub even_rest : {A : Type 0} (rest : Reply A) → Evened g s d → even_of g s d rest ≡ rest
  unfolding even_of
  even_rest rest v = checked_rest _ v.clear ∙ simp v.even
