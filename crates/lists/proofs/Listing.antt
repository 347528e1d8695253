-- A record's reversal and trim list the reversal and the trim of its list; the two laws of records; what every list has.
use mathlib.Core.Path.{◌≡◌, refl, sym, ap, ◌∙◌}
use Prim.Native.Nat.{ℕ, suc, ◌+◌, ◌-◌, ◌<◌}
use native.Mathlib.Omega.{arith}
use mathlib.Core.Bool.{Bool, true, false, cond, not}
use mathlib.Core.List.{List}
use lib.ListN.{length}
use Rattle.lists.specs.Plain.{Vert, tab, at, turn_at, turn_list, trim_list}
use Rattle.lists.specs.View.{View, forward, backward, vertex_at_of, view_list, turn_view, part, trim_view}
use Rattle.lists.proofs.Tab.{length_tab, get_d_tab, tab_ext}
use Rattle.lists.proofs.Steps.{turn_turn, turn_tab, trim_tab, trim_turn_tab}
use Rattle.lists.proofs.Views.{at_past, back_past, back_turn, part_forward}

module _ {A : Type 0} (neg : A → A) (z : A) (src : ℕ → Vert A) (n : ℕ) (r : View A) where
  -- r's list, as if its direction were b
  abbrev list_by : Bool → List (Vert A)
  list_by b = tab (λ k. cond b (backward neg z src n r k) (forward z src n r k)) (r.offset + 2)

  module _ (even : r.offset ≡ 0 → r.first.bulge ≡ r.end_bulge) where
    turned : list_by true ≡ turn_list neg z (list_by false)
    turned = tab_ext _ _ (r.offset + 2) (back_turn neg z src n r even) ∙ sym (turn_tab neg z (forward z src n r) (r.offset + 2))

    module _ (neg_neg : (a : A) → neg (neg a) ≡ a) where
      turned_back : list_by false ≡ turn_list neg z (list_by true)
      turned_back =
          tab_ext _ _ (r.offset + 2) (λ k h. sym (turn_turn neg z neg_neg (forward z src n r) (r.offset + 2) k
          (let e : r.offset + 2 - 1 ≡ r.offset + 1 = omega arith in rw (e, at_past z src n r)) h))
          ∙ sym (turn_tab neg z (turn_at neg z (forward z src n r) (r.offset + 2)) (r.offset + 2))
          ∙ ap (turn_list neg z) (tab_ext _ _ (r.offset + 2) (λ k h. sym (back_turn neg z src n r even k h)))

      turned_by : (b : Bool) → list_by (not b) ≡ turn_list neg z (list_by b)
      turned_by true = turned_back
      turned_by false = turned

      -- one reversal
      pub list_turn : view_list neg z src n (turn_view r) ≡ turn_list neg z (view_list neg z src n r)
      unfolding view_list vertex_at_of turn_view forward backward
      list_turn = turned_by r.inverted

module _ {A : Type 0} (z : A) (src : ℕ → Vert A) (n : ℕ) (r : View A) (a b : ℕ) (below : a < b) (within : b < r.offset + 2) where
  -- the forward list of a part
  part_list : tab (forward z src n (part z src n a b r)) ((part z src n a b r).offset + 2) ≡ trim_list z a b (tab (forward z src n r) (r.offset + 2))
  unfolding part
  part_list =
      let e : b - a - 1 + 2 ≡ suc (b - a) = omega arith in
      ap (tab (forward z src n (part z src n a b r))) e
      ∙ tab_ext _ _ (suc (b - a)) (part_forward z src n r a b below (omega arith))
      ∙ sym (trim_tab z (forward z src n r) (r.offset + 2) a b below within)

  part_even : (part z src n a b r).offset ≡ 0 → (part z src n a b r).first.bulge ≡ (part z src n a b r).end_bulge
  unfolding part
  part_even h = let e : b - 1 ≡ a = omega arith in rw e

module _ {A : Type 0} (neg : A → A) (z : A) (src : ℕ → Vert A) (n : ℕ) (r : View A) (even : r.offset ≡ 0 → r.first.bulge ≡ r.end_bulge)
    (i j : ℕ) (below : i < j) (within : j < r.offset + 2) where
  trimmed_by : (b : Bool) → list_by neg z src n (part z src n (cond b (r.offset + 1 - j) i) (cond b (r.offset + 1 - i) j) r) b
      ≡ trim_list z i j (list_by neg z src n r b)
  trimmed_by false = part_list z src n r i j below within
  trimmed_by true =
      let a : ℕ = r.offset + 1 - j in
      let b : ℕ = r.offset + 1 - i in
      let e₁ : r.offset + 2 - suc j ≡ a = omega arith in
      let e₂ : r.offset + 2 - suc i ≡ b = omega arith in
      turned neg z src n (part z src n a b r) (part_even z src n r a b (omega arith) (omega arith))
      ∙ ap (turn_list neg z) (part_list z src n r a b (omega arith) (omega arith))
      ∙ sym (rw (e₁, e₂) at (trim_turn_tab neg z (forward z src n r) (r.offset + 2) i j below within))
      ∙ ap (trim_list z i j) (sym (turned neg z src n r even))

  -- one trim
  pub list_trim : view_list neg z src n (trim_view z src n i j r) ≡ trim_list z i j (view_list neg z src n r)
  unfolding view_list vertex_at_of trim_view part
  list_trim = trimmed_by r.inverted

-- "Reversing twice changes nothing", and "trim i to j after a reversal is trim n-1-j to n-1-i before it", as records
module _ {A : Type 0} (r : View A) where
  not_not : (b : Bool) → not (not b) ≡ b
  not_not true = refl
  not_not false = refl

  pub turn_twice : turn_view (turn_view r) ≡ r
  unfolding turn_view
  turn_twice = λ i. record { start = r.start; offset = r.offset; first = r.first; end_bulge = r.end_bulge; end_x = r.end_x; end_y = r.end_y; inverted = not_not r.inverted i }

  pub trim_after_turn : (z : A) (src : ℕ → Vert A) (n i j : ℕ) → i < j → j < r.offset + 2
      → trim_view z src n i j (turn_view r) ≡ turn_view (trim_view z src n (r.offset + 1 - j) (r.offset + 1 - i) r)
  unfolding turn_view trim_view part forward
  trim_after_turn z src n i j below within = go r.inverted
    where
      go : (b : Bool) → part z src n (cond (not b) (r.offset + 1 - j) i) (cond (not b) (r.offset + 1 - i) j) (turn_view r)
          ≡ turn_view (part z src n (cond b (r.offset + 1 - (r.offset + 1 - i)) (r.offset + 1 - j)) (cond b (r.offset + 1 - (r.offset + 1 - j)) (r.offset + 1 - i)) r)
      go false = refl
      go true =
          let e₁ : r.offset + 1 - (r.offset + 1 - i) ≡ i = omega arith in
          let e₂ : r.offset + 1 - (r.offset + 1 - j) ≡ j = omega arith in
          rw (e₁, e₂)

-- "A view has offset + 2 vertices", and its list ends in the zero
module _ {A : Type 0} (neg : A → A) (z : A) (src : ℕ → Vert A) (n : ℕ) (r : View A) where
  pub length_list : length (view_list neg z src n r) ≡ r.offset + 2
  unfolding view_list
  length_list = length_tab _ _

  pub ends_in_zero : (at z (view_list neg z src n r) (r.offset + 1)).bulge ≡ z
  unfolding view_list vertex_at_of
  ends_in_zero = ap (λ (v : Vert A). v.bulge) (get_d_tab _ (r.offset + 2) (r.offset + 1) _ (omega arith)) ∙ go r.inverted
    where
      go : (b : Bool) → (cond b (backward neg z src n r (r.offset + 1)) (forward z src n r (r.offset + 1))).bulge ≡ z
      go true = rw (back_past neg z src n r (r.offset + 1) (omega arith))
      go false = rw (at_past z src n r)
