-- A list in threes: what stands in its k-th chunk is its k-th vertex.
use mathlib.Core.Path.{◌≡◌, ap, ◌∙◌}
use mathlib.Core.List.{List, []}
use Prim.Native.Nat.{ℕ, zero, suc, ◌+◌, ◌*◌, ◌<◌}
use native.Mathlib.Nat.{le_of_suc-le-suc, not-suc-le-zero}
use native.Mathlib.Omega.{arith}
use lib.ListN.{get_or, take, drop}
use lib.Ieee.{Float, nan}
use Rattle.std.specs.Simd.{first_chunks}
use Rattle.std.proofs.lemmas.List.{get_or-take, get_or-drop}
use Rattle.view.specs.Outline.{src_of}
use Rattle.job.specs.Rows.{vert}

number_at : (l : List Float) (m k i : ℕ) → k < m → i < 3 → get_or (get_or (first_chunks 3 m l) k []) i nan ≡ get_or l (3 * k + i) nan
number_at l zero k i h j = absurd (not-suc-le-zero h)
number_at l (suc m) zero i h j = get_or-take 3 l i nan j ∙ ap (λ (p : ℕ). get_or l p nan) (omega arith)
number_at l (suc m) (suc k) i h j =
    number_at (drop 3 l) m k i (le_of_suc-le-suc h) j ∙ get_or-drop 3 l (3 * k + i) nan ∙ ap (λ (p : ℕ). get_or l p nan) (omega arith)

pub vertex_at : (l : List Float) (n m k : ℕ) → k < n → k < m
    → (let v = get_or (take n (first_chunks 3 m l)) k [] in vert (get_or v 0 nan) (get_or v 1 nan) (get_or v 2 nan)) ≡ src_of l k
vertex_at l n m k h j =
    let e : 3 * k + 0 ≡ 3 * k = omega arith in
    rw (get_or-take n (first_chunks 3 m l) k [] h)
    (λ i. vert ((number_at l m k 0 j (omega arith) ∙ ap (λ (p : ℕ). get_or l p nan) e) i) (number_at l m k 1 j (omega arith) i) (number_at l m k 2 j (omega arith) i))
