-- Reversal and trim keep a record's numbers in range, its start and offset in the outline, and its bulges equal where its offset is 0. C and B are what a coordinate and a bulge have to meet.
use mathlib.Core.Path.{◌≡◌}
use Prim.Native.Nat.{ℕ, ◌+◌, ◌-◌, ◌%◌, ◌<◌, ◌≤◌}
use native.Mathlib.Nat.{mod-lt}
use native.Mathlib.Decide.{dec_lt}
use native.Mathlib.Omega.{arith}
use mathlib.Core.Bool.{Bool, true, false, cond}
use Rattle.lists.specs.Plain.{Vert}
use Rattle.lists.specs.View.{View, forward, turn_view, part, trim_view}
use Rattle.lists.proofs.Views.{Place, place, first, inner, final, past, at_first, at_inner, at_final, at_past}

module _ {A : Type 0} (C B : A → Type 0) where
  pub record InRange (v : Vert A) : Type 0 where
    pub x : C v.x
    pub y : C v.y
    pub bulge : B v.bulge

  pub record Good (n : ℕ) (r : View A) : Type 0 where
    pub start : r.start < n
    pub offset : r.offset ≤ n
    pub first : InRange r.first
    pub end_bulge : B r.end_bulge
    pub end_x : C r.end_x
    pub end_y : C r.end_y
    pub even : r.offset ≡ 0 → r.first.bulge ≡ r.end_bulge

  pub turn_good : (n : ℕ) (r : View A) → Good n r → Good n (turn_view r)
  unfolding turn_view
  turn_good n r g = record { start = g.start; offset = g.offset; first = g.first; end_bulge = g.end_bulge; end_x = g.end_x; end_y = g.end_y; even = g.even }

module _ {A : Type 0} (C B : A → Type 0) (z : A) (src : ℕ → Vert A) (n : ℕ) (some : 0 < n) (sound : (k : ℕ) → k < n → InRange C B (src k)) (r : View A) (g : Good C B n r) where
  forward_in : (k : ℕ) → k ≤ r.offset → InRange C B (forward z src n r k)
  forward_in k h = go (place r.offset k (omega arith))
    where
      go : Place r.offset k → InRange C B (forward z src n r k)
      go (first e) = rw (e, at_first z src n r) g.first
      go (inner p q) = rw (at_inner z src n r k p q) (sound ((r.start + k) % n) (mod-lt _ some))
      go (final p e) = rw (e, at_final z src n r p)
          (let v : InRange C B (src ((r.start + r.offset) % n)) = sound _ (mod-lt _ some) in record { x = v.x; y = v.y; bulge = g.end_bulge })
      go (past e) = absurd (omega arith)

  forward_pos : (k : ℕ) → k < r.offset + 2 → C (forward z src n r k).x × C (forward z src n r k).y
  forward_pos k h = go (dec_lt k (r.offset + 1))
    where
      go : Dec (k < r.offset + 1) → C (forward z src n r k).x × C (forward z src n r k).y
      go (yes p) = let v : InRange C B (forward z src n r k) = forward_in k (omega arith) in (v.x, v.y)
      go (no p) = let e : k ≡ r.offset + 1 = omega arith in rw (e, at_past z src n r) (g.end_x, g.end_y)

  part_good : (a b : ℕ) → a < b → b < r.offset + 2 → Good C B n (part z src n a b r)
  unfolding part
  part_good a b below within =
      record {
        start = mod-lt (r.start + a) some;
        offset = omega (arith, g.offset);
        first = forward_in a (omega arith);
        end_bulge = (forward_in (b - 1) (omega arith)).bulge;
        end_x = (forward_pos b within).0;
        end_y = (forward_pos b within).1;
        even = λ h. let e : b - 1 ≡ a = omega arith in rw e;
      }

  pub trim_good : (i j : ℕ) → i < j → j < r.offset + 2 → Good C B n (trim_view z src n i j r)
  unfolding trim_view
  trim_good i j below within = go r.inverted
    where
      go : (b : Bool) → Good C B n (part z src n (cond b (r.offset + 1 - j) i) (cond b (r.offset + 1 - i) j) r)
      go true = part_good (r.offset + 1 - j) (r.offset + 1 - i) (omega arith) (omega arith)
      go false = part_good i j below within
