-- "A view has offset + 2 vertices", its list ends in bulge plus zero, and lookup and list agree.
use mathlib.Core.Path.{◌≡◌, refl, sym, ap, ◌∙◌}
use mathlib.Core.Bool.{Bool, true, false, cond, ◌&&◌, ◌||◌}
use mathlib.Core.List.{List}
use Prim.Native.Nat.{ℕ, ◌+◌, ◌*◌, ◌<◌}
use native.Mathlib.Nat.{mod-lt}
use native.Mathlib.Omega.{arith}
use lib.ListN.{length}
use lib.Dec.{ltb, eqb}
use lib.Ieee.{Float, neg}
use borrow.Author.Tests.{lt-ltb}
use Rattle.real.specs.Reply.{given}
use Rattle.plane.specs.Grade.{Grade}
use Rattle.lists.specs.Plain.{Vert, at, flat}
use Rattle.lists.specs.View.{view_list}
use Rattle.view.specs.Outline.{count_of, of_vert, src_of}
use Rattle.view.specs.Record.{view_of, vertices, needed, listed, past_ok, turned_ok, reads_ok}
use Rattle.view.specs.Needs.{Placed}
use Rattle.view.specs.Answers.{get_vertex_of}
use Rattle.view.specs.declared.view_data.PlineViewData.{PlineViewData}
use Rattle.lists.proofs.Tab.{get_d_tab, length_flat}
use Rattle.view.proofs.Checks.{Checked, place_rest, vertex_in}
use Rattle.lists.proofs.Listing.{length_list, ends_in_zero}

module _ (g : Grade) (s : List Float) (d : PlineViewData) where
  pub list_count : length (listed g s d) ≡ d.end_index_offset + 2
  list_count = length_list neg g.zero (src_of s) (count_of s) (view_of d)

  -- its numbers, three to a vertex
  pub list_numbers : length (flat (listed g s d)) ≡ needed d
  list_numbers = length_flat (listed g s d) ∙ ap (λ (k : ℕ). 3 * k) list_count

  pub list_ends : (at g.zero (listed g s d) (d.end_index_offset + 1)).bulge ≡ g.zero
  list_ends = ends_in_zero neg g.zero (src_of s) (count_of s) (view_of d)

  -- and each lookup by position answers the list's vertex
  module _ (c : Checked g s d) where
    past : (steps : ℕ) → past_ok g s d.start_index steps ≡ true
    unfolding past_ok
    past steps = vertex_in g s c.numbers _ (mod-lt _ (omega (arith, c.placed)))

    reads : (k : ℕ) → reads_ok g s d k ≡ true
    unfolding reads_ok turned_ok
    reads k = simp past (same (eqb k 0 || ltb d.end_index_offset k) d.inverted_direction (eqb k d.end_index_offset))
      where
        same : (a b e : Bool) → cond a true (cond b (true && (e || true)) true) ≡ true
        same true b e = refl
        same false false e = refl
        same false true true = refl
        same false true false = refl

    pub lookup_lists : (k : ℕ) → k < vertices d → get_vertex_of g s d k ≡ given (of_vert (at g.zero (listed g s d) k))
    unfolding get_vertex_of view_list
    lookup_lists k h =
        let placed : Placed s d = c.placed in
        simp (c.outline, place_rest, lt-ltb k (vertices d) h, c.record_in, reads k)
        (ap (λ (v : Vert Float). given (of_vert v)) (sym (get_d_tab _ (vertices d) k _ h)))
