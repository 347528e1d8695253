-- Each part of a sheet's text, by its header at hand.
use mathlib.Core.Path.{◌≡◌, sym, ap, subst}
use mathlib.Core.Bool.{true, false}
use mathlib.Core.List.{List, [], ◌++◌}
use Prim.Native.Nat.{ℕ, ◌+◌, ◌-◌, ◌≤◌, ◌<◌}
use native.Mathlib.Omega.{arith}
use lib.ListN.{length}
use lib.Ieee.{Float}
use borrow.Author.Tests.{lt-ltb, le-ltb}
use Rattle.text.specs.Wrote.{Filled}
use Rattle.text.proofs.Writing.{no_piece, filled}
use Rattle.job.specs.declared.header.Header.{Header}
use Rattle.job.specs.Header.{header_value, header_good, closed, retired}
use Rattle.job.specs.Outline.{vertex_in_of}
use Rattle.job.specs.Extent.{box_to, last_segment_of}
use Rattle.job.specs.Sheet.{views}
use Rattle.job.specs.Lines.{box_words, no_box_words, box_end}
use Rattle.job.specs.Views.{part_bytes, Part}
use Rattle.job.specs.Parts.{box_line, front_part, view_part, part_text, view_buffer_of, part_buffer}

pub named_part : {l l' t u : List ℕ} {n : ℕ} → t ≡ u → Part l t l' n → Part l u l' n
named_part {l} {l'} {n = n} e p = subst (λ (t : List ℕ). Part l t l' n) e p

pub empty_part : (l : List ℕ) → Part l [] l 0
empty_part l = record { piece = no_piece l 0; short = omega arith }

-- in a buffer that has room for any part
pub part_filled : {l l' t : List ℕ} {n : ℕ} → Part l t l' n → part_bytes ≤ length l → Filled t l l' n
part_filled {l} {l'} {t} {n} p h =
    let s = p.short in
    let w = p.piece.wrote (omega arith) in
    let e = w.end in
    filled w (omega arith)

-- ---- which part

module _ (b : List ℕ) (s l : List Float) (k : ℕ) where
  pub no_part : header_good b ≡ false → ([] ≡ part_text b s k) × (l ≡ part_buffer b s k l)
  unfolding part_text part_buffer
  no_part e = (simp e, simp e)

  module _ (ok : header_good b ≡ true) where
    pub past_part : views b + 2 ≤ k → ([] ≡ part_text b s k) × (l ≡ part_buffer b s k l)
    unfolding part_text part_buffer
    past_part h = (simp (ok, le-ltb k (views b + 2) h), simp (ok, le-ltb k (views b + 2) h))

    pub front_part_law : k < 2 → (front_part b k ≡ part_text b s k) × (l ≡ part_buffer b s k l)
    unfolding part_text part_buffer
    front_part_law z =
        let h : k < views b + 2 = omega arith in
        (simp (ok, lt-ltb k (views b + 2) h, lt-ltb k 2 z), simp (ok, lt-ltb k (views b + 2) h, lt-ltb k 2 z))

    pub view_part_law : 2 ≤ k → k < views b + 2 → (view_part b s (k - 2) ≡ part_text b s k) × (view_buffer_of b s (k - 2) l ≡ part_buffer b s k l)
    unfolding part_text part_buffer
    view_part_law z h = (simp (ok, lt-ltb k (views b + 2) h, le-ltb k 2 z), simp (ok, lt-ltb k (views b + 2) h, le-ltb k 2 z))

-- ---- the box line

module _ (b : List ℕ) (h : Header) (is : h ≡ header_value b) where
  pub no_box : h.vertices < 2 → no_box_words ++ box_end (retired h) ≡ box_line b
  unfolding box_line
  no_box p =
      let n : (header_value b).vertices ≡ h.vertices = ap (λ (k : Header). k.vertices) (sym is) in
      simp (lt-ltb (header_value b).vertices 2 (omega arith)) (ap (λ (k : Header). no_box_words ++ box_end (retired k)) is)

  pub some_box : 2 ≤ h.vertices → box_words (box_to (vertex_in_of b) h.vertices (last_segment_of (closed h) h.vertices)) ++ box_end (retired h) ≡ box_line b
  unfolding box_line
  some_box p =
      let n : (header_value b).vertices ≡ h.vertices = ap (λ (k : Header). k.vertices) (sym is) in
      simp (le-ltb (header_value b).vertices 2 (omega arith))
      (ap (λ (k : Header). box_words (box_to (vertex_in_of b) k.vertices (last_segment_of (closed k) k.vertices)) ++ box_end (retired k)) is)
