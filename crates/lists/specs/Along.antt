-- The source segments that a view's list runs along. Segment m of an outline of n vertices goes from vertex m to the next one, wrapping, with the bulge of vertex m.
use Rattle.std.specs.Prelude.{◌≡◌, ℕ, ◌+◌, ◌-◌, ◌<◌, ◌≤◌, cond}
use Rattle.lists.specs.Plain.{Vert, position}
use Rattle.lists.specs.View.{View, wrapped, vertex_at_of}

module _ {A : Type 0} (n : ℕ) where
  -- from position k to position k + 1: forward the k-th segment past the start, inverted the same ones from the last to the first
  abbrev pub along : View A → ℕ → ℕ
  along r k = wrapped r.start (cond r.inverted (r.offset - k) k) n

  -- that segment's two vertices, in the list's direction
  abbrev pub from_vertex : View A → ℕ → ℕ
  from_vertex r k = cond r.inverted (wrapped (along r k) 1 n) (along r k)

  abbrev pub to_vertex : View A → ℕ → ℕ
  to_vertex r k = cond r.inverted (along r k) (wrapped (along r k) 1 n)

-- by the list's own vertices: apart from the list's two ends, the segment from position k stands where that source segment does, and between its first and its last it has that segment's bulge, negated if inverted
pub record RunsAlong {A : Type 0} (neg : A → A) (z : A) (src : ℕ → Vert A) (n : ℕ) (r : View A) : Type 0 where
  pub begins : (k : ℕ) → 0 < k → k ≤ r.offset → position (vertex_at_of neg z src n r k) ≡ position (src (from_vertex n r k))
  pub ends : (k : ℕ) → k < r.offset → position (vertex_at_of neg z src n r (k + 1)) ≡ position (src (to_vertex n r k))
  pub bulges : (k : ℕ) → 0 < k → k < r.offset → (vertex_at_of neg z src n r k).bulge ≡ cond r.inverted (neg (src (along n r k)).bulge) (src (along n r k)).bulge
