-- A view's record over an outline of n vertices `src`, for any type A of numbers with a negation and a zero: its vertices by position, in the cases of the crate's `get_vertex`, and its reversal and trim.
use Rattle.std.specs.Prelude.{ℕ, ◌+◌, ◌-◌, ◌%◌, Bool, cond, not, List, ltb, eqb}
use Rattle.lists.specs.Plain.{Vert, with_bulge, tab}

pub record View (A : Type 0) : Type 0 where
  pub start : ℕ
  pub offset : ℕ
  pub first : Vert A
  pub end_bulge : A
  pub end_x : A
  pub end_y : A
  pub inverted : Bool

-- "A wrapped vertex number is the remainder of index plus steps by the vertex count."
abbrev pub wrapped : ℕ → ℕ → ℕ → ℕ
wrapped index steps n = (index + steps) % n

-- "reversal flips the direction and changes nothing else"
unfoldable pub turn_view : {A : Type 0} → View A → View A
turn_view r = record { start = r.start; offset = r.offset; first = r.first; end_bulge = r.end_bulge; end_x = r.end_x; end_y = r.end_y; inverted = not r.inverted }

module _ {A : Type 0} (z : A) (src : ℕ → Vert A) (n : ℕ) where
  -- "Forward: updated start; source vertices start+1 to start+offset, wrapping, the last of them with the updated end bulge; end point with plus zero."
  unfoldable pub forward : View A → ℕ → Vert A
  forward r k =
      cond (eqb k 0) r.first
      (cond (ltb k r.offset) (src (wrapped r.start k n))
      (cond (eqb k r.offset) (with_bulge (src (wrapped r.start r.offset n)) r.end_bulge)
      (record { x = r.end_x; y = r.end_y; bulge = z })))

  -- from position a to position b of the forward list
  unfoldable pub part : ℕ → ℕ → View A → View A
  part a b r =
      record {
        start = wrapped r.start a n;
        offset = b - a - 1;
        first = forward r a;
        end_bulge = (forward r (b - 1)).bulge;
        end_x = (forward r b).x;
        end_y = (forward r b).y;
        inverted = r.inverted;
      }

  -- "trim keeps the direction, and its start index is the old one plus i (inverted: plus offset + 1 - j), wrapped": positions i to j of an inverted view are positions offset + 1 - j to offset + 1 - i of the forward list
  unfoldable pub trim_view : ℕ → ℕ → View A → View A
  trim_view i j r = part (cond r.inverted (r.offset + 1 - j) i) (cond r.inverted (r.offset + 1 - i) j) r

module _ {A : Type 0} (neg : A → A) (z : A) (src : ℕ → Vert A) (n : ℕ) where
  -- "Inverted positions and bulges follow `get_vertex`."
  unfoldable pub backward : View A → ℕ → Vert A
  backward r k =
      cond (eqb k 0) (record { x = r.end_x; y = r.end_y; bulge = neg r.end_bulge })
      (cond (ltb k r.offset) (with_bulge (src (wrapped (wrapped r.start (r.offset - k) n) 1 n)) (neg (src (wrapped r.start (r.offset - k) n)).bulge))
      (cond (eqb k r.offset) (with_bulge (src (wrapped r.start (r.offset - k + 1) n)) (neg r.first.bulge))
      (with_bulge r.first z)))

  -- position k of the view, for k below offset + 2
  unfoldable pub vertex_at_of : View A → ℕ → Vert A
  vertex_at_of r k = cond r.inverted (backward r k) (forward z src n r k)

  -- "A view has offset + 2 vertices."
  unfoldable pub view_list : View A → List (Vert A)
  view_list r = tab (vertex_at_of r) (r.offset + 2)
