-- The outline judged and handed over.
use mathlib.Core.Path.{◌≡◌, refl, sym, ap, ap₂, ◌∙◌, subst}
use mathlib.Core.List.{List, ◌++◌}
use mathlib.Core.Bool.{Bool, true, false}
use Prim.Native.Nat.{ℕ, ◌*◌, ◌/◌, ◌≤◌, ◌<◌}
use native.Mathlib.Omega.{arith}
use lib.ListN.{length, take, drop}
use lib.Ieee.{Float}
use borrow.Author.Tests.{le-leb, lt-leb}
use Rattle.std.specs.Prelude.{Result, Ok, Err}
use Rattle.std.specs.Result.{IsErr, IsErrAnd}
use Rattle.std.proofs.lemmas.Result.{err_from_is_err_and}
use Rattle.real.specs.Refusal.{bad_number, number_of}
use Rattle.real.specs.Reply.{Reply, refused, given, check, and_then}
use Rattle.real.specs.declared.refusal.Refusal.{Refusal}
use Rattle.real.specs.declared.refusal.Refusal.TheVariants as refusal
use Rattle.plane.specs.Grade.{double}
use Rattle.plane.specs.Range.{most_vertices}
use Rattle.view.specs.Outline.{numbers_ok}
use Rattle.dxf.specs.Item.{items_in}
use Rattle.dxf.specs.Entity.{Seen, entity_of}
use Rattle.dxf.specs.State.{Holds, Read}
use Rattle.dxf.specs.Outline.{Drawn, judged, outline_of, room_for, handed_over, Answers}
use Rattle.dxf.specs.declared.state.State.{State}
use Rattle.dxf.specs.declared.outline.DxfOutline.{DxfOutline}

answers_as : {d e : Reply Drawn} (r : Result DxfOutline Refusal) (l after : List Float) → d ≡ e → Answers e r l after → Answers d r l after
answers_as r l after e h = subst (λ (x : Reply Drawn). Answers x r l after) (sym e) h

answers_refused : {d : Reply Drawn} (e : Refusal) (l : List Float) → d ≡ refused (number_of e) → Answers d (Err e) l l
unfolding and_then handed_over
answers_refused e l h = answers_as (Err e) l l h (refl, refl)

-- ---- past the vertex limit

module _ (n : List Float) (c : Bool) (few : length n ≤ 3 * most_vertices) (l : List Float) where
  abbrev drawn : Drawn
  drawn = record { numbers = n; closed = c }

  within : judged n c ≡ check (numbers_ok double n) bad_number (given drawn)
  unfolding judged
  within = simp (le-leb (length n / 3) most_vertices (omega arith))

  pub out_of_range : numbers_ok double n ≡ false → Answers (judged n c) (Err refusal.BadNumber) l l
  out_of_range e = answers_refused refusal.BadNumber l (within ∙ simp e)

  pub no_room : numbers_ok double n ≡ true → length l < length n → Answers (judged n c) (Err refusal.NoRoom) l l
  unfolding and_then room_for handed_over
  no_room e h = answers_as {e = given drawn} (Err refusal.NoRoom) l l (within ∙ simp e) (simp (lt-leb (length n) (length l) h), simp (lt-leb (length n) (length l) h))

  pub handed : (after : List Float) → numbers_ok double n ≡ true → length n ≤ length l → after ≡ n ++ drop (length n) l → Answers (judged n c) (Ok (record { vertices = length n / 3; closed = c })) l after
  unfolding and_then room_for handed_over
  handed after e h w = answers_as {e = given drawn} (Ok (record { vertices = length n / 3; closed = c })) l after (within ∙ simp e) (simp (le-leb (length n) (length l) h), w ∙ simp (le-leb (length n) (length l) h))

-- ---- what has been read

module _ (s : State) (a : List Float) (m : Seen) (h : Holds s a m) (l : List Float) where
  pub too_many : most_vertices < s.vertices → Answers (judged m.numbers m.closed) (Err refusal.BadOutline) l l
  unfolding judged
  too_many g = let t : most_vertices < length m.numbers / 3 = omega (arith, h.size) in answers_refused refusal.BadOutline l (simp (lt-leb (length m.numbers / 3) most_vertices t))

  pub as_held : (r : Result DxfOutline Refusal) (after : List Float) → s.vertices ≤ most_vertices → Answers (judged (take (3 * s.vertices) a) s.closed) r l after → Answers (judged m.numbers m.closed) r l after
  as_held r after g w = answers_as r l after (sym (ap₂ judged (h.held g) h.closed)) w

-- ---- the whole call

module _ (b : List ℕ) (a l : List Float) where
  pub dxf_bad : (e : Refusal) (r : Result DxfOutline Refusal) → Read (entity_of (items_in b)) (Err e) a → IsErr r × IsErrAnd r (λ (x : Refusal). x ≡ e) → Answers (outline_of b) r l l
  unfolding Read outline_of items_in and_then
  dxf_bad e r d h =
      let p = err_from_is_err_and r h.1 in
      rw (p.1, p.2) (answers_refused e l (ap (λ (x : Reply Seen). and_then x (λ s. judged s.numbers s.closed)) d))

  pub dxf_good : (t : State) (r : Result DxfOutline Refusal) (after : List Float) → Read (entity_of (items_in b)) (Ok t) a → ((m : Seen) → Holds t a m → Answers (judged m.numbers m.closed) r l after) → Answers (outline_of b) r l after
  unfolding Read outline_of items_in and_then
  dxf_good t r after d f = answers_as r l after (ap (λ (x : Reply Seen). and_then x (λ s. judged s.numbers s.closed)) d.1) (f d.0 d.2)
