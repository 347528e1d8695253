-- Demand 3 through the C face: what a step answers fits 64 bytes, which are read back as that very record, so a row over bytes is the row over records. The number in its last four bytes stays.
use mathlib.Core.Path.{◌≡◌, refl, sym, ap, subst, ◌∙◌}
use mathlib.Core.List.{List, [], ◌∷◌, ◌++◌}
use Prim.Native.Nat.{ℕ, ◌*◌, ◌≤◌, ◌<◌}
use native.Mathlib.Omega.{arith}
use lib.ListN.{length, take, drop}
use lib.Seq.{take_at}
use lib.Dec.{T, leb}
use lib.Ieee.{Float, binary64, fits}
use lib.Ieee.Bits.{of_bits-fits}
use Rattle.real.specs.Refusal.{lacks_room}
use Rattle.real.specs.Reply.{Reply, refused, given, and_then}
use Rattle.real.proofs.Replies.{same_given, check_passed, went_on}
use Rattle.plane.specs.Grade.{double}
use Rattle.plane.specs.Range.{most_vertices}
use Rattle.lists.specs.Plain.{Vert, Step, turn, trim, flat}
use Rattle.lists.proofs.Good.{Good, turn_good, trim_good}
use Rattle.lists.proofs.Tab.{length_flat}
use Rattle.view.specs.Outline.{count_of, src_of}
use Rattle.view.specs.Record.{view_of, vertices, needed, listed}
use Rattle.view.specs.Needs.{Placed}
use Rattle.view.specs.Answers.{reverse_of, trim_of, vertex_count_of, list_of, list_buffer, buffer_after, written}
use Rattle.view.specs.Rows.{after, step, row}
use Rattle.view.specs.Demand3.{Unrefused, Even, Lists}
use Rattle.view.specs.declared.view_data.PlineViewData.{PlineViewData}
use Rattle.view.proofs.Checks.{checked, checked_rest}
use Rattle.view.proofs.Demand3.{same_bits, demand3}
use Rattle.view.proofs.Shape.{list_count}
use Rattle.record.specs.Bytes.{le32, float_at}
use Rattle.record.specs.Layout.{cut_number_at, word_limit}
use Rattle.record.specs.Record.{record_from, record_bytes}
use Rattle.record.specs.RoundTrip.{Bytes}
use Rattle.record.proofs.Records.{record_length, read, le32_lt, number_there, from_small}
use Rattle.lent.specs.Lent.{held_by, both, Answered}
use Rattle.lent.specs.Values.{list_reply}
use Rattle.lent.proofs.Laws.{fills}
use Rattle.bisquefern.specs.Rows.{bytes_after, Doubles, step_reply, bytes_row, NumberStays, BytesDemand3}
use Rattle.bisquefern.proofs.Placed.{turned, trimmed}

-- a call on bytes b into a buffer that holds b leaves there the bytes in hand after it, whether it answers or refuses
pub call_leaves : {b after : List ℕ} {n : ℕ} (r : Reply PlineViewData) → length b ≡ 64 → Answered record_bytes r b n after → after ≡ bytes_after b r
unfolding and_then held_by
call_leaves (refused m) h w = w.holds
call_leaves (given d) h w = fills record_bytes (record_length d ∙ sym h) w

abbrev Double : Float → Type 0
Double x = T (fits binary64 x)

module _ (s : List Float) where
  -- a record in the outline, its floats f64, its bulges equal where its offset is 0, its cut number a u32
  record Sound (d : PlineViewData) : Type 0 where
    view : Good Double Double (count_of s) (view_of d)
    number : d.cut_number < word_limit

  -- the record that bytes are
  read_sound : (b : List ℕ) (d : PlineViewData) → Bytes b → record_from b ≡ given d → Placed s d → Even double d → Sound d
  unfolding record_from float_at
  read_sound b d bytes e =
      subst (λ (r : PlineViewData). Placed s r → Even double r → Sound r) (read b d e).2
      (λ p even. record {
        view =
            record {
              start = p.start;
              offset = p.offset;
              first = record { x = of_bits-fits binary64 _; y = of_bits-fits binary64 _; bulge = of_bits-fits binary64 _ };
              end_bulge = of_bits-fits binary64 _;
              end_x = of_bits-fits binary64 _;
              end_y = of_bits-fits binary64 _;
              even = λ z. same_bits double _ _ (even z);
            };
        number = le32_lt b bytes cut_number_at;
      })

  turn_sound : (d d' : PlineViewData) → Sound d → given d' ≡ reverse_of double s d → Sound d'
  turn_sound d d' h e = subst Sound (turned s d d' e).is (record { view = turn_good Double Double (count_of s) (view_of d) h.view; number = h.number })

  module _ (doubles : Doubles s) where
    trim_sound : (d d' : PlineViewData) (i j : ℕ) → Sound d → given d' ≡ trim_of double s d i j → Sound d'
    trim_sound d d' i j h e =
        let t = trimmed s d d' i j e in
        subst Sound t.is
        (record {
          view = trim_good Double Double double.zero (src_of s) (count_of s) (omega (arith, t.clear.placed.two)) (λ k q. record { x = doubles _; y = doubles _; bulge = doubles _ }) (view_of d) h.view i j t.below t.within;
          number = h.number;
        })

    module _ (few : count_of s ≤ most_vertices) where
      -- bytes and the record that they are
      record Same (b : List ℕ) (d : PlineViewData) : Type 0 where
        is : record_from b ≡ given d
        sound : Sound d

      written_same : (d : PlineViewData) → Sound d → record_from (record_bytes d) ≡ given d
      written_same d h =
          from_small d (record { x = h.view.first.x; y = h.view.first.y; bulge = h.view.first.bulge; end_bulge_fits = h.view.end_bulge; end_x_fits = h.view.end_x; end_y_fits = h.view.end_y; number = h.number })
          (omega (arith, h.view.start)) (omega (arith, h.view.offset))

      after_same : (b : List ℕ) (d : PlineViewData) (r : Reply PlineViewData) → Same b d → ((d' : PlineViewData) → given d' ≡ r → Sound d') → Same (bytes_after b r) (after d r)
      after_same b d (given d') h f = record { is = written_same d' (f d' refl); sound = f d' refl }
      after_same b d (refused n) h f = h

      step_same : (t : Step) (b : List ℕ) (d : PlineViewData) → Same b d → Same (bytes_after b (step_reply s t b)) (step double s t d)
      unfolding step_reply step and_then
      step_same turn b d h = rw h.is (after_same b d (reverse_of double s d) h (λ d'. turn_sound d d' h.sound))
      step_same (trim i j) b d h = rw h.is (after_same b d (trim_of double s d i j) h (λ d'. trim_sound d d' i j h.sound))

      rows_same : (ts : List Step) (b : List ℕ) (d : PlineViewData) → Same b d → Same (bytes_row s ts b) (row double s ts d)
      unfolding bytes_row row
      rows_same [] b d h = h
      rows_same (t ∷ ts) b d h = rows_same ts _ _ (step_same t b d h)

  -- the reply of the listing call to a record that lists l
  reply_lists : (d : PlineViewData) (l : List (Vert Float)) → Lists double s d l → list_reply s d ≡ given (both (length l ∷ []) (flat l))
  unfolding list_reply and_then vertex_count_of list_of list_buffer buffer_after written
  reply_lists d l h =
      let m : ℕ = 3 * length l in
      let out = flat l in
      let size : length out ≡ m = length_flat l in
      let answer : list_of double s d m ≡ given (length l) = h.answer m (omega arith) in
      let k = checked double s d _ (sym answer) in
      let room = check_passed {b = leb (needed d) m} lacks_room (given (vertices d)) (sym answer ∙ checked_rest double s d _ k) in
      let count : vertices d ≡ length l = same_given (sym room.1) in
      let counted : vertex_count_of double s d ≡ given (length l) = checked_rest double s d _ k ∙ ap given count in
      let buffer : flat (listed double s d) ++ drop (needed d) out ≡ out ++ drop m out =
      sym (ap (λ (r : Reply ℕ). buffer_after r out (written double s d out)) (h.answer (length out) (omega arith))) ∙ h.buffer out (omega arith) in
      let same : flat (listed double s d) ≡ out =
      sym (take_at (flat (listed double s d)) (drop (needed d) out) m (length_flat (listed double s d) ∙ ap (λ (n : ℕ). 3 * n) (list_count double s d ∙ count))) ∙ ap (take m) buffer
      ∙ take_at out (drop m out) m size in
      ap (λ (r : Reply ℕ). and_then r (λ n. given (both (n ∷ []) (flat (listed double s d))))) counted ∙ ap (λ (x : List Float). given (both (length l ∷ []) x)) same

-- ---- the cut number

abbrev number_of : PlineViewData → ℕ
number_of d = d.cut_number

module _ (s : List Float) where
  -- a record that a step answers has the number in the bytes that it was asked of
  step_number : (t : Step) (b : List ℕ) (d' : PlineViewData) → step_reply s t b ≡ given d' → number_of d' ≡ le32 b cut_number_at
  unfolding step_reply
  step_number turn b d' e =
      let w = went_on (record_from b) (reverse_of double s) e in
      sym (ap number_of (read b w.0 w.1).2 ∙ ap number_of (turned s w.0 d' (sym w.2)).is)
  step_number (trim i j) b d' e =
      let w = went_on (record_from b) (λ d. trim_of double s d i j) e in
      sym (ap number_of (read b w.0 w.1).2 ∙ ap number_of (trimmed s w.0 d' i j (sym w.2)).is)

  after_number : (b : List ℕ) (r : Reply PlineViewData) → le32 b cut_number_at < word_limit → ((d : PlineViewData) → r ≡ given d → number_of d ≡ le32 b cut_number_at) → le32 (bytes_after b r) cut_number_at ≡ le32 b cut_number_at
  after_number b (refused n) h f = refl
  after_number b (given d) h f = number_there d (subst (λ (n : ℕ). n < word_limit) (sym (f d refl)) h) ∙ f d refl

  rows_number : (ts : List Step) (b : List ℕ) → le32 b cut_number_at < word_limit → le32 (bytes_row s ts b) cut_number_at ≡ le32 b cut_number_at
  unfolding bytes_row
  rows_number [] b h = refl
  rows_number (t ∷ ts) b h =
      let e = after_number b (step_reply s t b) h (step_number t b) in
      rows_number ts _ (subst (λ (n : ℕ). n < word_limit) (sym e) h) ∙ e

-- "no row of steps changes the number", of any bytes: refused steps too, and bytes that are no record
pub number_stays : (s : List Float) (b : List ℕ) → Bytes b → NumberStays s b
number_stays s b bytes ts = rows_number s ts b (le32_lt b bytes cut_number_at)

-- demand 3 over bytes, of an outline of f64s
pub bytes_demand3 : (s : List Float) (b : List ℕ) (d : PlineViewData) → Doubles s → Bytes b → record_from b ≡ given d → Unrefused double s d → Even double d → BytesDemand3 s b d
unfolding list_of and_then
bytes_demand3 s b d doubles bytes e u even =
    let p = (checked double s d _ (sym u.answer)).placed in
    let rows : (ts : List Step) → record_from (bytes_row s ts b) ≡ given (row double s ts d) = λ ts.
    (rows_same s doubles p.few ts b d (record { is = e; sound = read_sound s b d bytes e p even })).is in
    record {
      rows = rows;
      lists = λ ts. ap (λ (r : Reply PlineViewData). and_then r (list_reply s)) (rows ts) ∙ reply_lists s (row double s ts d) _ ((demand3 double s d u even).rows ts).lists;
      number = number_stays s b bytes;
    }
