-- A view's list runs along the source segments from its start on; none of them is the last one exactly when start plus offset stays before it, and a trim keeps it there.
use mathlib.Core.Path.{◌≡◌, ap, ◌∙◌}
use Prim.Native.Nat.{ℕ, ◌+◌, ◌-◌, ◌%◌, ◌<◌, ◌≤◌}
use native.Mathlib.Nat.{mod-add-mod, add_assoc, mod-eq_of_lt}
use native.Mathlib.Decide.{dec_lt}
use native.Mathlib.Omega.{arith}
use mathlib.Core.Bool.{Bool, true, false, cond}
use Rattle.lists.specs.Plain.{Vert, position}
use Rattle.lists.specs.View.{View, wrapped, forward, backward, vertex_at_of, part, trim_view}
use Rattle.lists.specs.Along.{along, RunsAlong}
use Rattle.lists.proofs.Views.{at_inner, at_pos, back_inner, back_final}

module _ {A : Type 0} (neg : A → A) (z : A) (src : ℕ → Vert A) (n : ℕ) (r : View A) where
  -- position k of the list, as if its direction were b, and its segment
  abbrev at_by : Bool → ℕ → Vert A
  at_by b k = cond b (backward neg z src n r k) (forward z src n r k)

  abbrev segment : Bool → ℕ → ℕ
  segment b k = wrapped r.start (cond b (r.offset - k) k) n

  begins_by : (b : Bool) (k : ℕ) → 0 < k → k ≤ r.offset → position (at_by b k) ≡ position (src (cond b (wrapped (segment b k) 1 n) (segment b k)))
  begins_by false k p q = ap position (at_pos z src n r k z p q)
  begins_by true k p q = go (dec_lt k r.offset)
    where
      go : Dec (k < r.offset) → position (at_by true k) ≡ position (src (wrapped (segment true k) 1 n))
      go (yes h) = ap position (back_inner neg z src n r k p h)
      go (no h) = ap position (back_final neg z src n r k p (omega arith)) ∙ simp (mod-add-mod, add_assoc)

  ends_by : (b : Bool) (k : ℕ) → k < r.offset → position (at_by b (k + 1)) ≡ position (src (cond b (segment b k) (wrapped (segment b k) 1 n)))
  ends_by false k h = ap position (at_pos z src n r (k + 1) z (omega arith) (omega arith)) ∙ simp (mod-add-mod, add_assoc)
  ends_by true k h =
      let e : r.offset - (k + 1) + 1 ≡ r.offset - k = omega arith in
      begins_by true (k + 1) (omega arith) (omega arith) ∙ simp (mod-add-mod, add_assoc, e)

  bulges_by : (b : Bool) (k : ℕ) → 0 < k → k < r.offset → (at_by b k).bulge ≡ cond b (neg (src (segment b k)).bulge) (src (segment b k)).bulge
  bulges_by false k p h = ap (λ (v : Vert A). v.bulge) (at_inner z src n r k p h)
  bulges_by true k p h = ap (λ (v : Vert A). v.bulge) (back_inner neg z src n r k p h)

  pub runs_along : RunsAlong neg z src n r
  unfolding vertex_at_of
  runs_along = record { begins = begins_by r.inverted; ends = ends_by r.inverted; bulges = bulges_by r.inverted }

module _ {A : Type 0} (n : ℕ) (r : View A) where
  -- start plus offset stays before the last segment: then no segment wraps, and each is before it
  pub before_last : r.start + r.offset < n - 1 → (k : ℕ) → k ≤ r.offset → along n r k + 1 < n
  before_last h k q = go r.inverted
    where
      go : (b : Bool) → wrapped r.start (cond b (r.offset - k) k) n + 1 < n
      go true = let e : (r.start + (r.offset - k)) % n ≡ r.start + (r.offset - k) = mod-eq_of_lt (omega arith) in rw e (omega arith)
      go false = let e : (r.start + k) % n ≡ r.start + k = mod-eq_of_lt (omega arith) in rw e (omega arith)

  -- and only then: the last segment is n - 1 - start past the start
  abbrev to_last : ℕ
  to_last = n - 1 - r.start

  reached : r.start < n → (w : ℕ) → w ≡ to_last → wrapped r.start w n + 1 < n → 1 ≤ 0
  reached s w e h = let q : (r.start + w) % n ≡ r.start + w = mod-eq_of_lt (omega arith) in omega (arith, rw q at h)

  reaches : r.start < n → to_last ≤ r.offset → (b : Bool) → ((k : ℕ) → k ≤ r.offset → wrapped r.start (cond b (r.offset - k) k) n + 1 < n) → 1 ≤ 0
  reaches s p true f = reached s (r.offset - (r.offset - to_last)) (omega arith) (f (r.offset - to_last) (omega arith))
  reaches s p false f = reached s to_last (omega arith) (f to_last p)

  pub stays_before : r.start < n → ((k : ℕ) → k ≤ r.offset → along n r k + 1 < n) → r.start + r.offset < n - 1
  stays_before s f = go (dec_lt (r.start + r.offset) (n - 1))
    where
      go : Dec (r.start + r.offset < n - 1) → r.start + r.offset < n - 1
      go (yes p) = p
      go (no p) = absurd (omega (arith, reaches s (omega arith) r.inverted f))

-- what stays before the last segment does so trimmed
module _ {A : Type 0} (z : A) (src : ℕ → Vert A) (n : ℕ) (r : View A) (before : r.start + r.offset < n - 1) where
  part_before : (a b : ℕ) → a < b → b < r.offset + 2 → (part z src n a b r).start + (part z src n a b r).offset < n - 1
  unfolding part
  part_before a b below within = let e : (r.start + a) % n ≡ r.start + a = mod-eq_of_lt (omega arith) in rw e (omega arith)

  pub trim_before : (i j : ℕ) → i < j → j < r.offset + 2 → (trim_view z src n i j r).start + (trim_view z src n i j r).offset < n - 1
  unfolding trim_view
  trim_before i j below within = go r.inverted
    where
      go : (b : Bool) → (part z src n (cond b (r.offset + 1 - j) i) (cond b (r.offset + 1 - i) j) r).start + (part z src n (cond b (r.offset + 1 - j) i) (cond b (r.offset + 1 - i) j) r).offset < n - 1
      go true = part_before (r.offset + 1 - j) (r.offset + 1 - i) (omega arith) (omega arith)
      go false = part_before i j below within
