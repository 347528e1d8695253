-- Demand 3. A record that passes the checks, with equal bulges where its offset is 0, is fine; the library's answers to a fine record are the view's, and each step leaves a fine one.
use mathlib.Core.Path.{◌≡◌, refl, sym, ap, ◌∙◌, subst}
use mathlib.Core.Bool.{Bool, true, false, cond, ◌&&◌}
use mathlib.Core.List.{List, [], ◌∷◌}
use Prim.Native.Nat.{ℕ, ◌+◌, ◌*◌, ◌-◌, ◌<◌, ◌≤◌}
use native.Mathlib.Decide.{dec_lt}
use native.Mathlib.Omega.{arith}
use lib.ListN.{length}
use lib.Dec.{ltb}
use lib.Ieee.{Float, nan, inf, fin, neg, to_bits, of_bits}
use lib.Ieee.Bits.{of_bits-to_bits}
use borrow.Author.Tests.{eq-eqb, ne_eqb, lt-ltb, le-leb, ltb-true}
use Rattle.real.specs.Refusal.{bad_trim}
use Rattle.real.specs.Reply.{given, check}
use Rattle.real.proofs.Replies.{and_both}
use Rattle.plane.specs.Grade.{Grade}
use Rattle.plane.specs.Range.{coord_ok, bulge_ok, point_ok, vertex_ok}
use Rattle.plane.specs.declared.pline_vertex.PlineVertex.{PlineVertex}
use Rattle.lists.specs.Plain.{Vert, Step, turn, trim, step_list, row_list}
use Rattle.lists.specs.View.{turn_view}
use Rattle.view.specs.Outline.{count_of, vert_of, src_of}
use Rattle.view.specs.Record.{view_of, data_of, turned_of, trimmed_of, vertices, needed, even_bits, listed, record_ok}
use Rattle.view.specs.Answers.{list_of, list_buffer, buffer_after, written, reverse_of, trim_of}
use Rattle.view.specs.Rows.{after, step, row}
use Rattle.view.specs.Demand3.{Unrefused, SameBits, Even, Lists, Kept, Demand3}
use Rattle.view.specs.declared.view_data.PlineViewData.{PlineViewData}
use Rattle.view.proofs.Checks.{Checked, checked, checked_rest, Evened, even_rest, vertex_in}
use Rattle.view.proofs.CutNumber.{row_number}
use Rattle.lists.proofs.Lists.{plain_steps}
use Rattle.lists.proofs.Good.{InRange, Good, turn_good, trim_good}
use Rattle.lists.proofs.Listing.{list_turn, list_trim, turn_twice, trim_after_turn, length_list}

neg_neg : (x : Float) → neg (neg x) ≡ x
unfolding neg
neg_neg nan = refl
neg_neg (inf true) = refl
neg_neg (inf false) = refl
neg_neg (fin true m e) = refl
neg_neg (fin false m e) = refl

pub same_bits : (g : Grade) (x y : Float) → SameBits g x y → x ≡ y
same_bits g x y h = sym (of_bits-to_bits g.format x h.first) ∙ ap (of_bits g.format) h.bits ∙ of_bits-to_bits g.format y h.second

module _ (g : Grade) where
  -- a coordinate and a bulge in range
  abbrev C : Float → Type 0
  C x = coord_ok g x ≡ true

  abbrev B : Float → Type 0
  B x = bulge_ok g x ≡ true

  vertex_range : (v : PlineVertex) → vertex_ok g v ≡ true → InRange C B (vert_of v)
  unfolding vertex_ok
  vertex_range v e =
      let a = and_both (coord_ok g v.x) _ e in
      let b = and_both (coord_ok g v.y) _ a.1 in
      record { x = a.0; y = b.0; bulge = b.1 }

module _ (g : Grade) (s : List Float) where
  pub record Fine (d : PlineViewData) : Type 0 where
    pub clear : Checked g s d
    pub even : d.end_index_offset ≡ 0 → d.updated_start.bulge ≡ d.updated_end_bulge

  good : (d : PlineViewData) → Fine d → Good (C g) (B g) (count_of s) (view_of d)
  unfolding record_ok point_ok
  good d f =
      let k = f.clear in
      let a = and_both (vertex_ok g d.updated_start) _ k.record_in in
      let b = and_both (bulge_ok g d.updated_end_bulge) _ a.1 in
      let c = and_both (coord_ok g d.end_point.x) _ b.1 in
      record { start = k.placed.start; offset = k.placed.offset; first = vertex_range g _ a.0; end_bulge = b.0; end_x = c.0; end_y = c.1; even = f.even }

  -- the outline is d's, and the view is in range
  fine : (d d' : PlineViewData) → Fine d → Good (C g) (B g) (count_of s) (view_of d') → Fine d'
  unfolding record_ok vertex_ok point_ok
  fine d d' f g =
      let k = f.clear in
      record {
        clear =
            record {
              outline = k.outline;
              numbers = k.numbers;
              record_in = simp (g.first.x, g.first.y, g.first.bulge, g.end_bulge, g.end_x, g.end_y);
              placed = record { few = k.placed.few; two = k.placed.two; start = g.start; offset = g.offset };
            };
        even = g.even;
      }

  module _ (d : PlineViewData) (f : Fine d) where
    even_bits_law : even_bits g d ≡ true
    unfolding even_bits
    even_bits_law = go (dec_lt 0 d.end_index_offset)
      where
        go : Dec (0 < d.end_index_offset) → even_bits g d ≡ true
        go (yes p) = simp (ne_eqb d.end_index_offset 0 (omega arith))
        go (no p) =
            let e : d.end_index_offset ≡ 0 = omega arith in
            simp (eq-eqb d.end_index_offset 0 e, eq-eqb (to_bits g.format d.updated_start.bulge) (to_bits g.format d.updated_end_bulge) (ap (to_bits g.format) (f.even e)))

    evened : Evened g s d
    evened = record { clear = f.clear; even = even_bits_law }

    reverses : reverse_of g s d ≡ given (turned_of d)
    unfolding reverse_of
    reverses = even_rest g s d _ evened

    -- what trim answers to a test of its positions
    trims : (i j : ℕ) (t : Bool) → (ltb i j && ltb j (vertices d)) ≡ t → trim_of g s d i j ≡ check t bad_trim (given (trimmed_of g s d i j))
    unfolding trim_of
    trims i j t e = even_rest g s d _ evened ∙ simp e

    turn_step : step g s turn d ≡ turned_of d
    unfolding step
    turn_step = ap (after d) reverses

    trim_step : (i j : ℕ) (t : Bool) → (ltb i j && ltb j (vertices d)) ≡ t → step g s (trim i j) d ≡ cond t (trimmed_of g s d i j) d
    unfolding step
    trim_step i j true e = ap (after d) (trims i j true e)
    trim_step i j false e = ap (after d) (trims i j false e)

    turn_fine : Fine (turned_of d)
    turn_fine = fine d (turned_of d) f (turn_good (C g) (B g) (count_of s) (view_of d) (good d f))

    turn_vertices : vertices (turned_of d) ≡ vertices d
    unfolding turn_view
    turn_vertices = refl

    trim_fine : (i j : ℕ) → i < j → j < vertices d → Fine (trimmed_of g s d i j)
    trim_fine i j below within = fine d (trimmed_of g s d i j) f (trim_good (C g) (B g) g.zero (src_of s) (count_of s) (omega (arith, f.clear.placed)) (λ k h. vertex_range g _ (vertex_in g s f.clear.numbers k h)) (view_of d) (good d f) i j below within)

    count : length (listed g s d) ≡ vertices d
    count = length_list neg g.zero (src_of s) (count_of s) (view_of d)

    lists : Lists g s d (listed g s d)
    unfolding list_of list_buffer buffer_after written
    lists = record { answer = λ m h. answers m h; buffer = λ out h. ap (λ r. buffer_after r out (written g s d out)) (answers (length out) h) ∙ rw count }
      where
        answers : (m : ℕ) → 3 * length (listed g s d) ≤ m → list_of g s d m ≡ given (length (listed g s d))
        answers m h = rw count (checked_rest g s d _ f.clear ∙ simp (le-leb (needed d) m (rw count at h)))

  both : (i j n : ℕ) → i < j → j < n → (ltb i j && ltb j n) ≡ true
  both i j n p q = simp (lt-ltb i j p, lt-ltb j n q)

  -- what is said of one record
  kept : (d : PlineViewData) → Fine d → Kept g s d (listed g s d)
  kept d f =
      record {
        lists = lists d f;
        plain = plain_steps neg g.zero (listed g s d) (omega (arith, count d f));
        turned = reverses d f ∙ ap given (sym (turn_step d f));
        trimmed = λ i j below within. let e = both i j (vertices d) below (rw (count d f) at within) in trims d f i j true e ∙ ap given (sym (trim_step d f i j true e));
        refusal = λ i j e. trims d f i j false (rw (count d f) at e);
        unchanged = λ i j e. trim_step d f i j false (rw (count d f) at e);
        twice = ap (step g s turn) (turn_step d f) ∙ turn_step (turned_of d) (turn_fine d f) ∙ ap (data_of d.cut_number) (turn_twice (view_of d));
        mirrored = λ i j below within. mirror i j below (rw (count d f) at within);
      }
    where
      mirror : (i j : ℕ) → i < j → j < vertices d → step g s (trim i j) (step g s turn d) ≡ step g s turn (step g s (trim (length (listed g s d) - 1 - j) (length (listed g s d) - 1 - i)) d)
      mirror i j below within =
          let i' : ℕ = d.end_index_offset + 1 - j in
          let j' : ℕ = d.end_index_offset + 1 - i in
          let e₁ : vertices d - 1 - j ≡ i' = omega arith in
          let e₂ : vertices d - 1 - i ≡ j' = omega arith in
          rw (count d f, e₁, e₂)
          (ap (step g s (trim i j)) (turn_step d f) ∙ trim_step (turned_of d) (turn_fine d f) i j true (both i j (vertices (turned_of d)) below (rw (turn_vertices d f) within))
          ∙ ap (data_of d.cut_number) (trim_after_turn (view_of d) g.zero (src_of s) (count_of s) i j below within)
          ∙ sym (ap (step g s turn) (trim_step d f i' j' true (both i' j' (vertices d) (omega arith) (omega arith))) ∙ turn_step (trimmed_of g s d i' j') (trim_fine d f i' j' (omega arith) (omega arith))))

  -- what a step leaves
  pub record Stepped (t : Step) (d : PlineViewData) : Type 0 where
    pub fine_after : Fine (step g s t d)
    pub lists_after : listed g s (step g s t d) ≡ step_list neg g.zero t (listed g s d)

  stepped : (t : Step) (d : PlineViewData) → Fine d → Stepped t d
  unfolding step_list
  stepped turn d f =
      record {
        fine_after = subst Fine (sym (turn_step d f)) (turn_fine d f);
        lists_after = ap (listed g s) (turn_step d f) ∙ list_turn neg g.zero (src_of s) (count_of s) (view_of d) f.even neg_neg;
      }
  stepped (trim i j) d f = go (ltb i j) (ltb j (vertices d)) refl refl
    where
      refused_step : (ltb i j && ltb j (vertices d)) ≡ false → Stepped (trim i j) d
      refused_step e =
          let e' : (ltb i j && ltb j (length (listed g s d))) ≡ false = rw (count d f) e in
          record { fine_after = subst Fine (sym (trim_step d f i j false e)) f; lists_after = ap (listed g s) (trim_step d f i j false e) ∙ simp e' }

      go : (p q : Bool) → ltb i j ≡ p → ltb j (vertices d) ≡ q → Stepped (trim i j) d
      go true true p q =
          let below = ltb-true i j p in
          let within = ltb-true j (vertices d) q in
          let e = both i j (vertices d) below within in
          let e' : (ltb i j && ltb j (length (listed g s d))) ≡ true = rw (count d f) e in
          record {
            fine_after = subst Fine (sym (trim_step d f i j true e)) (trim_fine d f i j below within);
            lists_after = ap (listed g s) (trim_step d f i j true e) ∙ list_trim neg g.zero (src_of s) (count_of s) (view_of d) f.even i j below within ∙ simp e';
          }
      go true false p q = refused_step (simp (p, q))
      go false q p r = refused_step (simp p)

  rows : (ts : List Step) (d : PlineViewData) → Fine d → Kept g s (row g s ts d) (row_list neg g.zero ts (listed g s d))
  unfolding row row_list
  rows [] d f = kept d f
  rows (t ∷ ts) d f = let w = stepped t d f in subst (λ (l : List (Vert Float)). Kept g s (row g s ts (step g s t d)) (row_list neg g.zero ts l)) w.lists_after (rows ts (step g s t d) w.fine_after)

  -- a fine record has demand 3
  pub fine_demand3 : (d : PlineViewData) → Fine d → Demand3 g s d
  fine_demand3 d f = record { rows = λ ts. rows ts d f; number = λ ts. row_number g s ts d }

-- demand 3
pub demand3 : (g : Grade) (s : List Float) (d : PlineViewData) → Unrefused g s d → Even g d → Demand3 g s d
unfolding list_of
demand3 g s d u even = fine_demand3 g s d (record { clear = checked g s d _ (sym u.answer); even = λ e. same_bits g _ _ (even e) })
