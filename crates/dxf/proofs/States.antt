-- What each code does to the reader's state and buffer, against what it does to what has been read.
use mathlib.Core.Path.{◌≡◌, refl, sym, ap, ap₂, ◌∙◌, subst}
use mathlib.Core.List.{List, [], ◌∷◌, ◌++◌, append_assoc}
use mathlib.Core.Bool.{Bool, true, false, not, ◌&&◌}
use Prim.Native.Nat.{ℕ, suc, ◌+◌, ◌-◌, ◌*◌, ◌/◌, ◌%◌, ◌≤◌, ◌<◌}
use native.Mathlib.Numerals.{add-one}
use native.Mathlib.Decide.{ℕ_discrete}
use native.Mathlib.Omega.{arith}
use lib.ListN.{length, take, set, length-set, length-append}
use lib.Seq.{take-suc-set}
use lib.Dec.{eqb}
use lib.Ieee.{Float}
use borrow.Author.Tests.{eq-eqb, ne_eqb, lt-leb, le-leb}
use Rattle.std.specs.Prelude.{Option, None, Some, Result, Ok, Err}
use Rattle.std.specs.Option.{option_map, option_eq, is_some}
use Rattle.std.specs.Result.{IsErr, IsErrAnd}
use Rattle.std.proofs.lemmas.Result.{err_from_is_err_and}
use Rattle.real.specs.Refusal.{bad_text, number_of}
use Rattle.real.specs.Reply.{Reply, refused, given, and_then}
use Rattle.real.specs.declared.refusal.Refusal.{Refusal}
use Rattle.plane.specs.Grade.{double}
use Rattle.plane.specs.Range.{most_vertices}
use Rattle.view.specs.Outline.{count_of}
use Rattle.numeral.specs.Digits.{cap, kept, value_of, whole_of}
use Rattle.numeral.specs.Decimal as decimal
use Rattle.numeral.proofs.Values.{kept_under, kept_parity, kept_only, whole_read, whole_bad}
use Rattle.dxf.specs.Entity.{Seen, count_step, closed_step, x_step, y_step, bulge_step, step_from, step_of, settled, counts}
use Rattle.dxf.specs.State.{Holds, Read, Steps}
use Rattle.dxf.specs.declared.state.State.{State}

-- ---- the buffer

pub put_three : {A : Type 0} (l : List A) (i : ℕ) (x y z : A) → i + 2 < length l → take (i + 3) (set (set (set l i x) (i + 1) y) (i + 2) z) ≡ take i l ++ (x ∷ y ∷ z ∷ [])
put_three l i x y z h =
    let a : i + 3 ≡ suc (i + 2) = omega arith in
    let b : i + 2 ≡ suc (i + 1) = omega arith in
    let l₁ = set l i x in
    let l₂ = set l₁ (i + 1) y in
    let n₁ : length l₁ ≡ length l = length-set l i x in
    let n₂ : length l₂ ≡ length l = length-set l₁ (i + 1) y ∙ n₁ in
    ap (λ (n : ℕ). take n (set l₂ (i + 2) z)) a
    ∙ take-suc-set l₂ (i + 2) z (omega arith)
    ∙ ap (λ (r : List _). r ++ (z ∷ [])) (ap (λ (n : ℕ). take n l₂) b ∙ take-suc-set l₁ (i + 1) y (omega arith) ∙ ap (λ (r : List _). r ++ (y ∷ [])) (ap (λ (n : ℕ). take n l₁) (add-one i) ∙ take-suc-set l i x (omega arith)))
    ∙ simp append_assoc

-- ---- refusals, given here or handed on

pub steps_refused : (s : State) (a : List Float) (e : Refusal) {d : Reply Seen} → d ≡ refused (number_of e) → Steps s d (Err e) a
unfolding Steps
steps_refused s a e h = h

pub steps_handed : (s : State) (a : List Float) (r : Result State Refusal) (e : Refusal) {d : Reply Seen} → IsErr r × IsErrAnd r (λ (x : Refusal). x ≡ e) → d ≡ refused (number_of e) → Steps s d r a
unfolding Steps
steps_handed s a r e h p = let q = err_from_is_err_and r h.1 in rw (q.1, q.2) p

pub read_handed : (a : List Float) (r : Result State Refusal) (e : Refusal) {d : Reply Seen} → IsErr r × IsErrAnd r (λ (x : Refusal). x ≡ e) → d ≡ refused (number_of e) → Read d r a
unfolding Read
read_handed a r e h p = let q = err_from_is_err_and r h.1 in rw (q.1, q.2) p

pub read_refused : (a : List Float) (e : Refusal) {d : Reply Seen} → d ≡ refused (number_of e) → Read d (Err e) a
unfolding Read
read_refused a e h = h

pub read_as : (r : Result State Refusal) (a : List Float) {d e : Reply Seen} → d ≡ e → Read e r a → Read d r a
read_as r a p h = subst (λ (x : Reply Seen). Read x r a) (sym p) h

pub steps_as : (s : State) (r : Result State Refusal) (a : List Float) {d e : Reply Seen} → d ≡ e → Steps s d r a → Steps s e r a
steps_as s r a p h = subst (λ (x : Reply Seen). Steps s x r a) p h

-- ---- the steps

module _ (s : State) (a : List Float) (m : Seen) (h : Holds s a m) (v : List ℕ) where
  pub count_bad : (k : ℕ) → refused k ≡ whole_of v → count_step m v ≡ refused k
  unfolding count_step
  count_bad k e = let w = whole_bad v k e in simp w.0 (ap refused (sym w.1))

  pub count_good : (n : ℕ) → given n ≡ whole_of v → Steps s (count_step m v) (Ok (record { count = Some n; closed = s.closed; waits = s.waits; vertices = s.vertices })) a
  unfolding Steps count_step
  count_good n e =
      let w = whole_read v n e in (
        omega arith,
        record { count = Some (value_of v); closed = m.closed; waits = m.waits; numbers = m.numbers },
        simp w.0,
        record { count = ap Some w.1; closed = h.closed; waits = h.waits; size = h.size; held = h.held },
      )

  pub closed_bad : (k : ℕ) → refused k ≡ whole_of v → closed_step m v ≡ refused k
  unfolding closed_step
  closed_bad k e = let w = whole_bad v k e in simp w.0 (ap refused (sym w.1))

  pub closed_good : (n : ℕ) → given n ≡ whole_of v → Steps s (closed_step m v) (Ok (record { count = s.count; closed = eqb (n % 2) 1; waits = s.waits; vertices = s.vertices })) a
  unfolding Steps closed_step
  closed_good n e =
      let w = whole_read v n e in (
        omega arith,
        record { count = m.count; closed = eqb (value_of v % 2) 1; waits = m.waits; numbers = m.numbers },
        simp w.0,
        record { count = h.count; closed = ap (λ (x : ℕ). eqb x 1) (ap (λ (x : ℕ). x % 2) w.1 ∙ kept_parity (value_of v)); waits = h.waits; size = h.size; held = h.held },
      )

  pub x_bad : (k : ℕ) → refused k ≡ decimal.number_of v → x_step m v ≡ refused k
  unfolding x_step and_then
  x_bad k e = simp (sym e)

  pub x_good : (x : Float) → given x ≡ decimal.number_of v → Steps s (x_step m v) (Ok (record { count = s.count; closed = s.closed; waits = Some x; vertices = s.vertices })) a
  unfolding Steps x_step and_then
  x_good x e = (
    omega arith,
    record { count = m.count; closed = m.closed; waits = Some x; numbers = m.numbers },
    simp (sym e),
    record { count = h.count; closed = h.closed; waits = refl; size = h.size; held = h.held },
  )

  pub y_bad : (x : Float) (k : ℕ) → refused k ≡ decimal.number_of v → y_step m x v ≡ refused k
  unfolding y_step and_then
  y_bad x k e = simp (sym e)

  pub y_good : (x y : Float) (b : List Float) → given y ≡ decimal.number_of v → (s.vertices < most_vertices → take (3 * s.vertices + 3) b ≡ take (3 * s.vertices) a ++ (x ∷ y ∷ double.zero ∷ []))
      → Steps s (y_step m x v) (Ok (record { count = s.count; closed = s.closed; waits = None; vertices = s.vertices + 1 })) b
  unfolding Steps y_step and_then
  y_good x y b e p = (
    omega arith,
    record { count = m.count; closed = m.closed; waits = None; numbers = m.numbers ++ (x ∷ y ∷ double.zero ∷ []) },
    simp (sym e),
    record {
      count = h.count;
      closed = h.closed;
      waits = refl;
      size = length-append m.numbers (x ∷ y ∷ double.zero ∷ []) ∙ three (length m.numbers) s.vertices h.size;
      held = λ l. ap (λ (n : ℕ). take n b) (next s.vertices) ∙ p (omega arith) ∙ ap (λ (r : List Float). r ++ (x ∷ y ∷ double.zero ∷ [])) (h.held (omega arith));
    },
  )
    where
      three : (l n : ℕ) → l ≡ 3 * n → l + 3 ≡ 3 * (n + 1)
      three l n h = omega arith

      next : (n : ℕ) → 3 * (n + 1) ≡ 3 * n + 3
      next n = omega arith

  pub bulge_none : s.vertices < 1 → bulge_step m v ≡ refused bad_text
  unfolding bulge_step
  bulge_none l = let z : length m.numbers < 1 = omega (arith, h.size) in simp (lt-leb 1 (length m.numbers) z)

  pub bulge_bad : (k : ℕ) → 1 ≤ s.vertices → refused k ≡ decimal.number_of v → bulge_step m v ≡ refused k
  unfolding bulge_step and_then
  bulge_bad k l e = let z : 1 ≤ length m.numbers = omega (arith, h.size) in simp (le-leb 1 (length m.numbers) z, sym e)

  pub bulge_good : (z : Float) (b : List Float) → 1 ≤ s.vertices → given z ≡ decimal.number_of v → (s.vertices ≤ most_vertices → take (3 * s.vertices) b ≡ set (take (3 * s.vertices) a) (3 * s.vertices - 1) z) → Steps s (bulge_step m v) (Ok s) b
  unfolding Steps bulge_step and_then
  bulge_good z b l e p =
      let some : 1 ≤ length m.numbers = omega (arith, h.size) in
      let place : 3 * s.vertices - 1 ≡ length m.numbers - 1 = omega (arith, h.size) in (
        omega arith,
        record { count = m.count; closed = m.closed; waits = m.waits; numbers = set m.numbers (length m.numbers - 1) z },
        simp (le-leb 1 (length m.numbers) some, sym e),
        record {
          count = h.count;
          closed = h.closed;
          waits = h.waits;
          size = length-set m.numbers (length m.numbers - 1) z ∙ h.size;
          held = λ g. p g ∙ ap (λ (r : List Float). set r (3 * s.vertices - 1) z) (h.held g) ∙ ap (λ (i : ℕ). set m.numbers i z) place;
        },
      )

  pub steps_same : Steps s (given m) (Ok s) a
  unfolding Steps
  steps_same = (omega arith, m, refl, h)

-- ---- which step a code asks for

module _ (m : Seen) (c : ℕ) (v : List ℕ) where
  module _ (o : Option Float) (w : o ≡ m.waits) where
    by_waits : step_from o m c v ≡ step_of m c v
    unfolding step_of
    by_waits = ap (λ (o : Option Float). step_from o m c v) w

    pub step_y : (x : Float) → o ≡ Some x → c ≡ 20 → y_step m x v ≡ step_of m c v
    unfolding step_from
    step_y x p e = sym (ap (λ (o : Option Float). step_from o m c v) p ∙ simp (eq-eqb c 20 e)) ∙ by_waits

    pub step_late : (x : Float) → o ≡ Some x → (c ≡ 20 → ⊥) → step_of m c v ≡ refused bad_text
    unfolding step_from
    step_late x p e = sym by_waits ∙ ap (λ (o : Option Float). step_from o m c v) p ∙ simp (ne_eqb c 20 e)

    module _ (p : o ≡ None) where
      freely : step_from None m c v ≡ step_of m c v
      freely = sym (ap (λ (o : Option Float). step_from o m c v) p) ∙ by_waits

      pub step_90 : c ≡ 90 → count_step m v ≡ step_of m c v
      unfolding step_from
      step_90 e = sym (simp (eq-eqb c 90 e)) ∙ freely

      pub step_70 : c ≡ 70 → closed_step m v ≡ step_of m c v
      unfolding step_from
      step_70 e = sym (simp (ne_eqb c 90 (λ f. omega arith), eq-eqb c 70 e)) ∙ freely

      pub step_10 : c ≡ 10 → x_step m v ≡ step_of m c v
      unfolding step_from
      step_10 e = sym (simp (ne_eqb c 90 (λ f. omega arith), ne_eqb c 70 (λ f. omega arith), eq-eqb c 10 e)) ∙ freely

      pub step_20 : c ≡ 20 → step_of m c v ≡ refused bad_text
      unfolding step_from
      step_20 e = sym freely ∙ simp (ne_eqb c 90 (λ f. omega arith), ne_eqb c 70 (λ f. omega arith), ne_eqb c 10 (λ f. omega arith), eq-eqb c 20 e)

      pub step_42 : c ≡ 42 → bulge_step m v ≡ step_of m c v
      unfolding step_from
      step_42 e = sym (simp (ne_eqb c 90 (λ f. omega arith), ne_eqb c 70 (λ f. omega arith), ne_eqb c 10 (λ f. omega arith), ne_eqb c 20 (λ f. omega arith), eq-eqb c 42 e)) ∙ freely

      pub step_other : (c ≡ 90 → ⊥) → (c ≡ 70 → ⊥) → (c ≡ 10 → ⊥) → (c ≡ 20 → ⊥) → (c ≡ 42 → ⊥) → given m ≡ step_of m c v
      unfolding step_from
      step_other a b d f e = sym (simp (ne_eqb c 90 a, ne_eqb c 70 b, ne_eqb c 10 d, ne_eqb c 20 f, ne_eqb c 42 e)) ∙ freely

-- ---- the end

-- the count kept tells whether the count itself is n, below the cap
count_same : (c n l : ℕ) → l ≡ 3 * n → n < cap → eqb (kept c) n ≡ eqb c (l / 3)
count_same c n l g h =
    let t : l / 3 ≡ n = omega arith in
    elim (ℕ_discrete c n) [
      | yes p ↦ eq-eqb (kept c) n (kept_under c (omega arith) ∙ p) ∙ sym (eq-eqb c (l / 3) (p ∙ sym t))
      | no p ↦ ne_eqb (kept c) n (λ (f : kept c ≡ n). p (kept_only c n h f)) ∙ sym (ne_eqb c (l / 3) (λ (f : c ≡ l / 3). p (f ∙ t)))
    ]

pub flipped : {t s : Bool} → s ≡ not t → t ≡ not s
flipped {t = true} e = ap not (sym e)
flipped {t = false} e = ap not (sym e)

pub may_end_as : (s : State) (a : List Float) (m : Seen) → Holds s a m → s.vertices < cap → (not (is_some s.waits) && option_eq eqb s.count (Some s.vertices)) ≡ (settled m.waits && counts m.count (count_of m.numbers))
may_end_as s a m h z =
    ap₂ (λ (w : Option Float) (c : Option ℕ). not (is_some w) && option_eq eqb c (Some s.vertices)) h.waits h.count
    ∙ ap₂ (λ (a b : Bool). a && b) (settled_none m.waits) (counted m.count)
  where
    settled_none : (o : Option Float) → not (is_some o) ≡ settled o
    settled_none None = unfold settled in refl
    settled_none (Some x) = unfold settled in refl

    counted : (o : Option ℕ) → option_eq eqb (option_map kept o) (Some s.vertices) ≡ counts o (count_of m.numbers)
    counted None = unfold counts in refl
    counted (Some c) = unfold counts in count_same c s.vertices (length m.numbers) h.size z
