-- What reading a drawing leaves in the two buffers, by what it answers.
use mathlib.Core.Path.{◌≡◌, refl, sym, ap, ap₂, subst, ◌∙◌}
use mathlib.Core.Bool.{cond}
use mathlib.Core.List.{List, [], ◌∷◌}
use Prim.Native.Nat.{ℕ, ◌≤◌, ◌<◌}
use lib.ListN.{length}
use lib.Dec.{leb}
use lib.Ieee.{Float}
use borrow.Author.Tests.{le-leb, lt-leb}
use Rattle.real.specs.Refusal.{lacks_room}
use Rattle.real.specs.Reply.{Reply, refused, given, and_then}
use Rattle.real.proofs.Replies.{same_given, never_given, check_passed, check_failed}
use Rattle.dxf.specs.Outline.{Drawn, room_for, handed_over}
use Rattle.dxf.specs.declared.outline.DxfOutline.{DxfOutline}
use Rattle.lent.specs.Lent.{code_of, held_by, lent, lent_both, itself, both, Answered, BothAnswered}
use Rattle.lent.specs.Values.{drawn_values}

-- ---- without a place for the words: whatever a buffer had room for, the drawing's own refusals come first

module _ (m : ℕ) {w : List ℕ} {l : List Float} (none : length w < 2) where
  pub unplaced_refused : (d : Reply Drawn) (k : ℕ) → refused k ≡ and_then d (room_for m) → BothAnswered drawn_values d (both w l) k (both w l)
  unfolding and_then code_of held_by lent_both room_for
  unplaced_refused (refused n) k e = record { returned = cc; holds = refl }
  unplaced_refused (given o) k e =
      let f = check_failed {b = leb (length o.numbers) m} lacks_room _ e in
      record { returned = f.1 ∙ simp (lt-leb 2 (length w) none); holds = simp (lt-leb 2 (length w) none) }

  pub unplaced : (d : Reply Drawn) (r : DxfOutline) → given r ≡ and_then d (room_for m) → BothAnswered drawn_values d (both w l) lacks_room (both w l)
  unfolding and_then code_of held_by lent_both
  unplaced (refused n) r e = never_given (sym e)
  unplaced (given o) r e = record { returned = simp (lt-leb 2 (length w) none); holds = simp (lt-leb 2 (length w) none) }

-- ---- with one

module _ {w : List ℕ} {l l' : List Float} (room : 2 ≤ length w) where
  pub drawing_refused : (d : Reply Drawn) (k : ℕ) → refused k ≡ and_then d (room_for (length l)) → l' ≡ handed_over d l → BothAnswered drawn_values d (both w l) k (both w l')
  unfolding and_then code_of held_by lent_both handed_over room_for
  drawing_refused (refused n) k e h = record { returned = cc; holds = ap (both w) h }
  drawing_refused (given o) k e h =
      let f = check_failed {b = leb (length o.numbers) (length l)} lacks_room _ e in
      record { returned = f.1 ∙ simp (le-leb 2 (length w) room, f.0); holds = ap (both w) (simp f.0 at h) ∙ simp (le-leb 2 (length w) room, f.0) }

  pub drawing_given : {w' : List ℕ} (d : Reply Drawn) (r : DxfOutline) (code : ℕ) → given r ≡ and_then d (room_for (length l)) → l' ≡ handed_over d l
      → Answered itself (given (r.vertices ∷ cond r.closed 1 0 ∷ [])) w code w' → BothAnswered drawn_values d (both w l) code (both w' l')
  unfolding and_then code_of held_by lent lent_both handed_over room_for
  drawing_given (refused n) r code e h a = never_given (sym e)
  drawing_given {w'} (given o) r code e h a =
      let p = check_passed {b = leb (length o.numbers) (length l)} lacks_room _ e in
      let b = subst (λ (r : DxfOutline). Answered itself (given (r.vertices ∷ cond r.closed 1 0 ∷ [])) w code w') (same_given p.1) a in
      record {
        returned = (simp (le-leb 2 (length w) room) at b.returned) ∙ simp (le-leb 2 (length w) room, p.0);
        holds = ap₂ both (simp (le-leb 2 (length w) room) at b.holds) (simp p.0 at h) ∙ simp (le-leb 2 (length w) room, p.0);
      }
