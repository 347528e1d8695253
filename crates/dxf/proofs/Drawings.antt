-- Each step keeps the numbers in threes and f64, so that what a text gives is an outline (`drawn_sound`).
use mathlib.Core.Path.{◌≡◌, refl, sym, ap, ap₂, ◌∙◌, subst}
use mathlib.Core.List.{List, [], ◌∷◌, ◌++◌}
use mathlib.Core.Bool.{Bool, true, false, cond, ◌&&◌, true≢false}
use Rattle.std.specs.Prelude.{Option, None, Some}
use Prim.Native.Nat.{ℕ, ◌+◌, ◌-◌, ◌*◌, ◌/◌, ◌%◌, ◌≤◌}
use native.Mathlib.Omega.{arith}
use lib.ListN.{length, take, drop, length-set, length-append}
use lib.Seq.{take_at}
use lib.Dec.{leb, eqb}
use lib.Ieee.{Float, binary64}
use lib.Ieee.Bits.{of_bits-fits}
use borrow.Author.Tests.{leb-true, le-leb, eqb-true, eq-eqb}
use Rattle.real.specs.Refusal.{bad_text, bad_number, bad_outline, lacks_room}
use Rattle.real.specs.Reply.{Reply, refused, given, and_then}
use Rattle.real.proofs.Replies.{same_given, never_given, check_given, check_failed, and_both, went_on}
use Rattle.plane.specs.Grade.{double}
use Rattle.plane.specs.Range.{most_vertices, whole_outline}
use Rattle.lists.specs.Every.{Every}
use Rattle.lists.proofs.Every.{every_append, every_set}
use Rattle.view.specs.Outline.{count_of, numbers_ok}
use Rattle.view.specs.Sound.{Held, SoundOutline}
use Rattle.numeral.specs.Digits.{is_whole}
use Rattle.numeral.specs.Decimal.{number_of}
use Rattle.numeral.proofs.Numbers.{number_held}
use Rattle.dxf.specs.Line.{lines_of}
use Rattle.dxf.specs.Item.{Item, pair, lone, odd, items_of}
use Rattle.dxf.specs.Entity.{Seen, start, count_step, closed_step, x_step, y_step, bulge_step, step_from, step_of, settled, counts, end_of, body_of, same, name, entity_of}
use Rattle.dxf.specs.Outline.{Drawn, judged, outline_of, room_for, handed_over, outline_to, outline_buffer}
use Rattle.dxf.specs.declared.outline.DxfOutline.{DxfOutline}

record Kept (s : Seen) : Type 0 where
  pub threes : length s.numbers % 3 ≡ 0
  pub held : Every Held s.numbers
  pub x : (x : Float) → s.waits ≡ Some x → Held x

kept_start : Kept start
unfolding Every
kept_start = record { threes = refl; held = tt; x = λ x e. absurd (cc) }

zero_held : Held double.zero
zero_held = of_bits-fits binary64 0

-- ---- the steps

module _ (s r : Seen) (k : Kept s) where
  is : (q : Seen) → given q ≡ given r → Kept q → Kept r
  is q e h = subst Kept (same_given e) h

  either : (b : Bool) (x y : Reply Seen) → (x ≡ given r → Kept r) → (y ≡ given r → Kept r) → cond b x y ≡ given r → Kept r
  either true x y f g e = f e
  either false x y f g e = g e

  module _ (v : List ℕ) where
    count_kept : count_step s v ≡ given r → Kept r
    unfolding count_step
    count_kept e = is _ (check_given (is_whole v) bad_text _ e).1 (record { threes = k.threes; held = k.held; x = k.x })

    closed_kept : closed_step s v ≡ given r → Kept r
    unfolding closed_step
    closed_kept e = is _ (check_given (is_whole v) bad_text _ e).1 (record { threes = k.threes; held = k.held; x = k.x })

    x_kept : x_step s v ≡ given r → Kept r
    unfolding x_step
    x_kept e =
        let w = went_on (number_of v) _ e in
        is _ w.2 (record { threes = k.threes; held = k.held; x = λ y g. let q : w.0 ≡ y = cc in subst Held q (number_held v w.0 w.1) })

    y_kept : (x : Float) → Held x → y_step s x v ≡ given r → Kept r
    unfolding y_step Every
    y_kept x h e =
        let w = went_on (number_of v) _ e in
        is _ w.2 record {
          threes = ap (λ (n : ℕ). n % 3) (length-append s.numbers (x ∷ w.0 ∷ double.zero ∷ [])) ∙ more (length s.numbers) k.threes;
          held = every_append Held s.numbers _ k.held (h, (number_held v w.0 w.1, (zero_held, tt)));
          x = λ y g. absurd (cc);
        }
      where
        more : (n : ℕ) → n % 3 ≡ 0 → (n + 3) % 3 ≡ 0
        more n h = omega arith

    bulge_kept : bulge_step s v ≡ given r → Kept r
    unfolding bulge_step
    bulge_kept e =
        let w = went_on (number_of v) _ (check_given (leb 1 (length s.numbers)) bad_text _ e).1 in
        is _ w.2 record {
          threes = ap (λ (n : ℕ). n % 3) (length-set s.numbers (length s.numbers - 1) w.0) ∙ k.threes;
          held = every_set Held s.numbers (length s.numbers - 1) w.0 k.held (number_held v w.0 w.1);
          x = k.x;
        }

    step_kept : (c : ℕ) → step_of s c v ≡ given r → Kept r
    unfolding step_of
    step_kept c = go s.waits refl
      where
        go : (o : Option Float) → s.waits ≡ o → step_from o s c v ≡ given r → Kept r
        go (Some x) w = unfold step_from in either (eqb c 20) _ _ (y_kept x (k.x x w)) never_given
        go None w = unfold step_from in
            either (eqb c 90) _ _ count_kept
            (either (eqb c 70) _ _ closed_kept
            (either (eqb c 10) _ _ x_kept
            (either (eqb c 20) _ _ never_given
            (either (eqb c 42) _ _ bulge_kept (λ e. is s e k)))))

  end_kept : end_of s ≡ given r → Kept r
  unfolding end_of
  end_kept e = is s (check_given (settled s.waits && counts s.count (count_of s.numbers)) bad_text _ e).1 k

-- ---- the entity and the text

body_kept : (t : List Item) (s r : Seen) → Kept s → body_of s t ≡ given r → Kept r
unfolding body_of
body_kept [] s r k e = end_kept s r k e
body_kept (odd ∷ t) s r k e = never_given e
body_kept (lone c ∷ t) s r k e = either s r k (eqb c 0) _ _ (end_kept s r k) never_given e
body_kept (pair c v ∷ t) s r k e = either s r k (eqb c 0) _ _ (end_kept s r k) (λ f. let w = went_on (step_of s c v) _ f in body_kept t w.0 r (step_kept s w.0 k v c w.1) w.2) e

entity_kept : (t : List Item) (r : Seen) → entity_of t ≡ given r → Kept r
unfolding entity_of
entity_kept [] r e = never_given e
entity_kept (odd ∷ t) r e = never_given e
entity_kept (lone c ∷ t) r e = never_given e
entity_kept (pair c v ∷ t) r e = either start r kept_start (eqb c 0 && same v name) _ _ (body_kept t start r kept_start) (entity_kept t r) e

pub drawn_sound : (b : List ℕ) (o : Drawn) → outline_of b ≡ given o → SoundOutline o.numbers
unfolding outline_of judged whole_outline
drawn_sound b o e =
    let w = went_on (entity_of (items_of (lines_of b))) _ e in
    let s = w.0 in
    let k = entity_kept (items_of (lines_of b)) s w.1 in
    let few = check_given (leb (count_of s.numbers) most_vertices) bad_outline _ w.2 in
    let range = check_given (numbers_ok double s.numbers) bad_number _ few.1 in
    subst (λ (d : Drawn). SoundOutline d.numbers) (same_given range.1) (record { whole = simp (eq-eqb (length s.numbers % 3) 0 k.threes, few.0); numbers = range.0; held = k.held })

-- whole vertices, and few enough
pub drawn_threes : (b : List ℕ) (o : Drawn) → outline_of b ≡ given o → (length o.numbers ≡ 3 * count_of o.numbers) × (count_of o.numbers ≤ most_vertices)
unfolding whole_outline
drawn_threes b o e =
    let n = length o.numbers in
    let w = and_both (eqb (n % 3) 0) (leb (n / 3) most_vertices) (drawn_sound b o e).whole in
    (omega (arith, eqb-true (n % 3) 0 w.0), leb-true (n / 3) most_vertices w.1)

-- ---- in a lent buffer

-- what a call that answers leaves in it is the outline
pub handed_over_law : (b : List ℕ) (l : List Float) (d : DxfOutline) → outline_to b (length l) ≡ given d
    → (outline_of b ≡ given (record { numbers = take (3 * d.vertices) (outline_buffer b l); closed = d.closed })) × (3 * d.vertices ≤ length (outline_buffer b l))
unfolding outline_to outline_buffer room_for handed_over
handed_over_law b l d e =
    let w = went_on (outline_of b) _ e in
    let o = w.0 in
    let room = check_given (leb (length o.numbers) (length l)) lacks_room _ w.2 in
    let is = same_given room.1 in
    let n : length o.numbers ≡ 3 * d.vertices = (drawn_threes b o w.1).0 ∙ ap (λ (x : DxfOutline). 3 * x.vertices) is in
    let buffer : outline_buffer b l ≡ o.numbers ++ drop (length o.numbers) l = ap (λ (x : Reply Drawn). handed_over x l) w.1 ∙ simp room.0 in
    let begins : take (3 * d.vertices) (outline_buffer b l) ≡ o.numbers = ap (take (3 * d.vertices)) buffer ∙ take_at o.numbers (drop (length o.numbers) l) (3 * d.vertices) n in (
      w.1 ∙ ap₂ (λ (x : List Float) (c : Bool). given (record { numbers = x; closed = c })) (sym begins) (ap (λ (x : DxfOutline). x.closed) is),
      omega (arith, ap length buffer, length-append o.numbers (drop (length o.numbers) l)),
    )

-- one for the largest outline has room for every other
fits_all : (x : Reply Drawn) (m k : ℕ) → ((o : Drawn) → x ≡ given o → length o.numbers ≤ m) → and_then x (room_for m) ≡ refused k → x ≡ refused k
unfolding and_then room_for
fits_all (refused n) m k h e = let q : n ≡ k = cc in ap refused q
fits_all (given o) m k h e = let f = check_failed {b = leb (length o.numbers) m} lacks_room _ (sym e) in absurd (true≢false (sym (le-leb (length o.numbers) m (h o refl)) ∙ f.0))

pub refused_itself : (b : List ℕ) (m k : ℕ) → 3 * most_vertices ≤ m → outline_to b m ≡ refused k → outline_of b ≡ refused k
unfolding outline_to
refused_itself b m k h e = fits_all (outline_of b) m k (λ o p. let t = drawn_threes b o p in omega (arith, t.0, t.1)) e
