-- A view's list and its count in two lent buffers, from what the listing and the count promise.
use mathlib.Core.Path.{◌≡◌, refl, sym, ap, ap₂, ◌∙◌}
use mathlib.Core.Bool.{Bool, true, false, ◌&&◌}
use mathlib.Core.List.{List, [], ◌∷◌, ◌++◌}
use Prim.Native.Nat.{ℕ, ◌≤◌, ◌<◌}
use lib.Dec.{leb, ltb}
use lib.ListN.{length, drop}
use lib.Ieee.{Float}
use borrow.Author.Tests.{le-leb, lt-leb}
use Rattle.real.specs.Refusal.{bad_number, bad_outline, bad_index, bad_offset, lacks_room}
use Rattle.real.specs.Reply.{Reply, refused, given, check, and_then}
use Rattle.plane.specs.Grade.{double}
use Rattle.lists.specs.Plain.{flat}
use Rattle.view.specs.Outline.{count_of, viewable, numbers_ok}
use Rattle.view.specs.Record.{listed, needed, vertices, record_ok}
use Rattle.view.specs.Check.{place_of, check_of}
use Rattle.view.specs.Answers.{vertex_count_of, list_of, list_buffer, buffer_after, written}
use Rattle.view.specs.declared.view_data.PlineViewData.{PlineViewData}
use Rattle.view.proofs.Shape.{list_numbers}
use Rattle.lent.specs.Lent.{code_of, held_by, lent, lent_both, in_front, has_room_of, itself, one, both, Answered, BothAnswered}
use Rattle.lent.specs.Values.{list_reply}
use Rattle.lent.proofs.Laws.{replies}

-- four checks, and then what follows
chained : {A B : Type 0} (p q r t : Bool) (x : A) (f : A → Reply B) → check p bad_outline (check q bad_number (check r bad_offset (check t bad_index (f x))))
    ≡ and_then (check p bad_outline (check q bad_number (check r bad_offset (check t bad_index (given x))))) f
unfolding and_then
chained false q r t x f = refl
chained true false r t x f = refl
chained true true false t x f = refl
chained true true true false x f = refl
chained true true true true x f = refl

-- of the count's reply x and the list's numbers l: with no place for the count nothing is written
nothing : {out : List Float} {count count' : List ℕ} {n : ℕ} (l : List Float) (x : Reply ℕ) → length count < 1 → Answered one x count n count'
    → BothAnswered itself (and_then x (λ k. given (both (k ∷ []) l))) (both count out) n (both count' out)
unfolding and_then code_of held_by lent lent_both
nothing {out} l (refused m) h w = record { returned = w.returned; holds = ap (λ (c : List ℕ). both c out) w.holds }
nothing {out} l (given k) h w =
    record { returned = (simp (lt-leb _ _ h) at w.returned) ∙ simp (lt-leb _ _ h); holds = ap (λ (c : List ℕ). both c out) (simp (lt-leb _ _ h) at w.holds) ∙ simp (lt-leb _ _ h) }

-- with a place for it, by whether the list has room
by_room : {out out' : List Float} {count count' : List ℕ} {n : ℕ} (l : List Float) (x : Reply ℕ) (b : Bool) → has_room_of l out ≡ b → 1 ≤ length count
    → out' ≡ buffer_after (and_then x (λ k. check b lacks_room (given k))) out (in_front l out) → Answered one (and_then x (λ k. check b lacks_room (given k))) count n count'
    → BothAnswered itself (and_then x (λ k. given (both (k ∷ []) l))) (both count out) n (both count' out')
unfolding and_then code_of held_by lent lent_both buffer_after
by_room l (refused m) b e h o w = record { returned = w.returned; holds = ap₂ both w.holds o }
by_room l (given k) false e h o w = record { returned = w.returned ∙ simp (le-leb _ _ h, e); holds = ap₂ both w.holds o ∙ simp (le-leb _ _ h, e) }
by_room l (given k) true e h o w =
    record { returned = (simp (le-leb _ _ h) at w.returned) ∙ simp (le-leb _ _ h, e); holds = ap₂ both (simp (le-leb _ _ h) at w.holds) o ∙ simp (le-leb _ _ h, e) }

module _ (s : List Float) (d : PlineViewData) where
  list_is : (m : ℕ) → list_of double s d m ≡ and_then (vertex_count_of double s d) (λ n. check (leb (needed d) m) lacks_room (given n))
  unfolding list_of vertex_count_of check_of place_of
  list_is m =
      chained (viewable s) (numbers_ok double s && record_ok double d) (leb d.end_index_offset (count_of s)) (ltb d.start_index (count_of s)) (vertices d)
      (λ n. check (leb (needed d) m) lacks_room (given n))

  module _ {out : List Float} {count count' : List ℕ} {n : ℕ} {y : Reply ℕ} where
    pub no_count : length count < 1 → y ≡ vertex_count_of double s d → Answered one y count n count' → BothAnswered itself (list_reply s d) (both count out) n (both count' out)
    unfolding list_reply
    no_count h e w = nothing (flat (listed double s d)) (vertex_count_of double s d) h (replies e w)

    pub listed_both : {out' : List Float} → 1 ≤ length count → y ≡ list_of double s d (length out) → out' ≡ list_buffer double s d out → Answered one y count n count'
        → BothAnswered itself (list_reply s d) (both count out) n (both count' out')
    unfolding list_reply list_buffer written
    listed_both h e o w =
        let is = list_is (length out) in
        let l = flat (listed double s d) in
        by_room l (vertex_count_of double s d) (leb (needed d) (length out)) (ap (λ (m : ℕ). leb m (length out)) (list_numbers double s d)) h
        (o ∙ ap₂ (λ (r : Reply ℕ) (m : ℕ). buffer_after r out (l ++ drop m out)) is (sym (list_numbers double s d))) (replies (e ∙ is) w)
