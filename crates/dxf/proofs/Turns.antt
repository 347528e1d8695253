-- The reader's loops against the definition of the entity.
use mathlib.Core.Path.{◌≡◌, refl, sym, ap, ◌∙◌}
use mathlib.Core.List.{List, [], ◌∷◌}
use mathlib.Core.Bool.{Bool, true, false, ◌&&◌, cond}
use Prim.Native.Nat.{ℕ, ◌+◌, ◌*◌, ◌≤◌}
use native.Mathlib.Omega.{arith}
use lib.ListN.{length, take}
use lib.Dec.{eqb}
use lib.Pointwise.{pointwise}
use lib.Ieee.{Float}
use denote.Bor.{Bor}
use borrow.Author.Tests.{eq-eqb, ne_eqb}
use Rattle.std.specs.Prelude.{Option, None, Some, Result, Ok, Err}
use Rattle.std.specs.Option.{ok_or}
use Rattle.real.specs.Refusal.{bad_text, number_of}
use Rattle.real.specs.Reply.{Reply, refused, and_then}
use Rattle.real.specs.declared.refusal.Refusal.{Refusal}
use Rattle.real.specs.declared.refusal.Refusal.TheVariants as refusal
use Rattle.view.specs.Outline.{count_of}
use Rattle.dxf.specs.Item.{Item, pair, lone, odd, items_in, BeginsWith}
use Rattle.dxf.specs.Entity.{Seen, start, step_of, settled, counts, end_of, body_of, same, name, entity_of}
use Rattle.dxf.specs.State.{Holds, Read, Steps}
use Rattle.dxf.specs.declared.state.State.{State}
use Rattle.dxf.specs.declared.item.Entry.{Entry}

pub same_is : (s t : List ℕ) → pointwise eqb s t ≡ same s t
unfolding same
same_is [] [] = refl
same_is [] (b ∷ t) = refl
same_is (a ∷ s) [] = refl
same_is (a ∷ s) (b ∷ t) = ap (λ (x : Bool). eqb a b && x) (same_is s t)

-- ---- what a text begins with

module _ (r : List ℕ) (o : Option Entry) (begins : BeginsWith r (Ok o)) where
  none_left : o ≡ None → items_in r ≡ []
  unfolding BeginsWith
  none_left p = rw p at begins

  module _ (e : Entry) (p : o ≡ Some e) where
    lone_left : e.value ≡ None → items_in r ≡ lone e.code ∷ []
    unfolding BeginsWith
    lone_left q = let b = rw p at begins in rw q at b

    pub pair_left : (v : Bor (List ℕ)) → e.value ≡ Some v → (items_in r ≡ pair e.code v.now ∷ items_in e.rest.now) × (length e.rest.now + 2 ≤ length r)
    unfolding BeginsWith
    pair_left v q = let b = rw p at begins in rw q at b

odd_left : (r : List ℕ) (x : Refusal) → BeginsWith r (Err x) → (number_of x ≡ bad_text) × (t : List Item) × (items_in r ≡ odd ∷ t)
unfolding BeginsWith
odd_left r x b = b

-- ---- the entity's items

module _ (m : Seen) (r : List ℕ) where
  pub body_odd : (x : Refusal) → BeginsWith r (Err x) → body_of m (items_in r) ≡ refused (number_of x)
  unfolding body_of
  body_odd x b = let o = odd_left r x b in ap (body_of m) o.2 ∙ ap refused (sym o.0)

  module _ (o : Option Entry) (begins : BeginsWith r (Ok o)) where
    pub body_none : o ≡ None → body_of m (items_in r) ≡ end_of m
    unfolding body_of
    body_none p = ap (body_of m) (none_left r o begins p)

    module _ (e : Entry) (p : o ≡ Some e) where
      pub body_close : e.code ≡ 0 → body_of m (items_in r) ≡ end_of m
      body_close z = go e.value refl
        where
          go : (q : Option (Bor (List ℕ))) → e.value ≡ q → body_of m (items_in r) ≡ end_of m
          go None q = ap (body_of m) (lone_left r o begins e p q) ∙ unfold body_of in simp (eq-eqb e.code 0 z)
          go (Some v) q = ap (body_of m) (pair_left r o begins e p v q).0 ∙ unfold body_of in simp (eq-eqb e.code 0 z)

      pub body_lone : (e.code ≡ 0 → ⊥) → e.value ≡ None → body_of m (items_in r) ≡ refused bad_text
      unfolding body_of
      body_lone z q = ap (body_of m) (lone_left r o begins e p q) ∙ simp (ne_eqb e.code 0 z)

      pub body_pair : (e.code ≡ 0 → ⊥) → (v : Bor (List ℕ)) → e.value ≡ Some v → body_of m (items_in r) ≡ and_then (step_of m e.code v.now) (λ n. body_of n (items_in e.rest.now))
      unfolding body_of
      body_pair z v q = ap (body_of m) (pair_left r o begins e p v q).0 ∙ simp (ne_eqb e.code 0 z)

-- ---- looking for the entity

module _ (r : List ℕ) where
  pub entity_odd : (x : Refusal) → BeginsWith r (Err x) → entity_of (items_in r) ≡ refused (number_of x)
  unfolding entity_of
  entity_odd x b = let o = odd_left r x b in ap entity_of o.2 ∙ ap refused (sym o.0)

  module _ (o : Option Entry) (begins : BeginsWith r (Ok o)) where
    pub entity_none : o ≡ None → entity_of (items_in r) ≡ refused bad_text
    unfolding entity_of
    entity_none p = ap entity_of (none_left r o begins p)

    module _ (e : Entry) (p : o ≡ Some e) where
      pub entity_lone : e.value ≡ None → entity_of (items_in r) ≡ refused bad_text
      unfolding entity_of
      entity_lone q = ap entity_of (lone_left r o begins e p q)

      module _ (v : Bor (List ℕ)) (q : e.value ≡ Some v) where
        pub entity_found : e.code ≡ 0 → same v.now name ≡ true → entity_of (items_in r) ≡ body_of start (items_in e.rest.now)
        unfolding entity_of
        entity_found z s = ap entity_of (pair_left r o begins e p v q).0 ∙ simp (eq-eqb e.code 0 z, s)

        pub entity_other : (e.code ≡ 0 → ⊥) → entity_of (items_in r) ≡ entity_of (items_in e.rest.now)
        unfolding entity_of
        entity_other z = ap entity_of (pair_left r o begins e p v q).0 ∙ simp (ne_eqb e.code 0 z)

        pub entity_named : same v.now name ≡ false → entity_of (items_in r) ≡ entity_of (items_in e.rest.now)
        unfolding entity_of
        entity_named s = ap entity_of (pair_left r o begins e p v q).0 ∙ go (eqb e.code 0)
          where
            go : (z : Bool) → cond (z && same v.now name) (body_of start (items_in e.rest.now)) (entity_of (items_in e.rest.now)) ≡ entity_of (items_in e.rest.now)
            go true = simp s
            go false = refl

-- a value that is missing is refused
pub missing : {A : Type 0} (o : Option A) (f : Refusal) → ◌≡◌ {A = Result A Refusal} (Err f) (ok_or o refusal.BadText) → (o ≡ None) × (number_of f ≡ bad_text)
missing None f e = let p : f ≡ refusal.BadText = cc in (refl, ap number_of p)
missing (Some a) f e = absurd (cc)

-- ---- the loop over the entity's items

-- so far: the rest of the items, read on from what is seen, gives the whole
pub record Going (b r : List ℕ) (s : State) (a : List Float) : Type 0 where
  pub few : 2 * s.vertices + length r ≤ length b
  pub seen : Seen
  pub is : body_of start (items_in b) ≡ body_of seen (items_in r)
  pub holds : Holds s a seen

pub going_start : (b : List ℕ) (s : State) (a : List Float) → (s.count ≡ None) × ((s.closed ≡ false) × ((s.waits ≡ None) × (s.vertices ≡ 0))) → Going b b s a
going_start b s a h =
    let few : 2 * s.vertices + length b ≤ length b = omega (arith, h.1.1.1) in
    let size : 0 ≡ 3 * s.vertices = omega (arith, h.1.1.1) in
    record { few = few; seen = start; is = refl; holds = record { count = h.0; closed = h.1.0; waits = h.1.1.0; size = size; held = λ l. ap (λ (n : ℕ). take n a) (sym size) } }

module _ (b r : List ℕ) (s : State) (a : List Float) (g : Going b r s a) where
  pub going_on : (d : Reply Seen) (q : List ℕ) (t : State) (z : List Float) → body_of g.seen (items_in r) ≡ and_then d (λ n. body_of n (items_in q)) → length q + 2 ≤ length r → Steps s d (Ok t) z → Going b q t z
  unfolding Steps and_then
  going_on d q t z e l w =
      let few = g.few in
      record { few = omega (arith, w.0); seen = w.1; is = g.is ∙ e ∙ ap (λ (x : Reply Seen). and_then x (λ n. body_of n (items_in q))) w.2; holds = w.3 }

  pub step_bad : (d : Reply Seen) (q : List ℕ) (x : Refusal) (z : List Float) → body_of g.seen (items_in r) ≡ and_then d (λ n. body_of n (items_in q)) → Steps s d (Err x) z → body_of start (items_in b) ≡ refused (number_of x)
  unfolding Steps and_then
  step_bad d q x z e w = g.is ∙ e ∙ ap (λ (x : Reply Seen). and_then x (λ n. body_of n (items_in q))) w

  -- where it ends, f says whether it may
  module _ (e : body_of g.seen (items_in r) ≡ end_of g.seen) (f : Bool) (h : f ≡ (settled g.seen.waits && counts g.seen.count (count_of g.seen.numbers))) where
    pub body_done : f ≡ true → Read (body_of start (items_in b)) (Ok s) a
    unfolding Read end_of
    body_done y = (g.seen, g.is ∙ e ∙ simp (sym h ∙ y), g.holds)

    pub body_early : f ≡ false → Read (body_of start (items_in b)) (Err refusal.BadText) a
    unfolding Read end_of
    body_early y = g.is ∙ e ∙ simp (sym h ∙ y)
