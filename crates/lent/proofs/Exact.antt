-- A listing call that answers has counted, found room in both buffers, and put its values in front.
use mathlib.Core.Path.{◌≡◌, refl, sym, ap, subst, ◌∙◌}
use mathlib.Core.Bool.{true, ◌&&◌}
use mathlib.Core.List.{List, [], ◌∷◌}
use Prim.Native.Nat.{ℕ}
use lib.ListN.{length}
use lib.Ieee.{Float}
use borrow.Author.Tests.{leb-true}
use Rattle.real.specs.Refusal.{lacks_room}
use Rattle.real.specs.Reply.{given, and_then}
use Rattle.real.proofs.Replies.{same_given, check_given, and_both, went_on}
use Rattle.plane.specs.Grade.{double}
use Rattle.lists.specs.Plain.{flat}
use Rattle.view.specs.Record.{vertices, needed, listed}
use Rattle.view.specs.Answers.{vertex_count_of}
use Rattle.view.specs.declared.view_data.PlineViewData.{PlineViewData}
use Rattle.view.proofs.Checks.{checked, checked_rest}
use Rattle.view.proofs.Shape.{list_numbers}
use Rattle.view.proofs.Exact.{InFront, in_front_law}
use Rattle.lent.specs.Lent.{Both, both, has_room_of, in_front, lent_both}
use Rattle.lent.specs.Values.{list_reply}
use Rattle.lent.specs.Exact.{ListsExactly}

module _ (s : List Float) (d : PlineViewData) (before after : Both) where
  counted : (n : ℕ) → vertex_count_of double s d ≡ given n → n ≡ vertices d
  unfolding vertex_count_of
  counted n e = same_given (sym e ∙ checked_rest double s d _ (checked double s d _ (sym e)))

  -- of the values v
  stored : (v : Both) → lent_both v before ≡ given after → (has_room_of v.numbers before.numbers ≡ true) × (after ≡ both (in_front v.words before.words) (in_front v.numbers before.numbers))
  unfolding lent_both
  stored v e =
      let c = check_given (has_room_of v.words before.words && has_room_of v.numbers before.numbers) lacks_room _ e in
      ((and_both (has_room_of v.words before.words) _ c.0).1, sym (same_given c.1))

  pub lists_exactly : and_then (list_reply s d) (λ v. lent_both v before) ≡ given after → ListsExactly s d before after
  unfolding list_reply
  lists_exactly e =
      let a = went_on (list_reply s d) _ e in
      let b = went_on (vertex_count_of double s d) _ a.1 in
      let v : a.0 ≡ both (vertices d ∷ []) (flat (listed double s d)) = sym (same_given b.2) ∙ ap (λ (n : ℕ). both (n ∷ []) (flat (listed double s d))) (counted b.0 b.1) in
      let w = stored _ (subst (λ (v : Both). lent_both v before ≡ given after) v a.2) in
      let l = flat (listed double s d) in
      let f : InFront l before.numbers after.numbers (length l) =
      subst (λ (a : Both). InFront l before.numbers a.numbers (length l)) (sym w.1) (in_front_law l before.numbers (length l) refl (leb-true _ _ w.0)) in
      let g : InFront l before.numbers after.numbers (needed d) = subst (λ (n : ℕ). InFront l before.numbers after.numbers n) (list_numbers double s d) f in
      record { count = ap (λ (a : Both). a.words) w.1; written = g.written; kept = g.kept; size = g.size }
