-- A sheet as it is written, number after number, and how many bytes it has.
use mathlib.Core.Path.{◌≡◌, refl, sym, ap, ◌∙◌}
use mathlib.Core.Bool.{Bool}
use mathlib.Core.List.{List, [], ◌∷◌, ◌++◌, append_assoc, append-nil}
use Prim.Native.Nat.{ℕ, ◌+◌, ◌*◌, ◌≤◌, ◌<◌}
use native.Mathlib.Numerals.{add-one}
use native.Mathlib.Omega.{arith}
use lib.ListN.{length, take, get_or, length-append}
use lib.Seq.{take-suc, take_all}
use lib.Ieee.{Float, nan}
use Rattle.view.specs.Outline.{count_of}
use Rattle.record.specs.Bytes.{bytes4, float_bytes}
use Rattle.record.proofs.Records.{float_length}
use Rattle.text.specs.Wrote.{Piece}
use Rattle.text.proofs.Writing.{no_piece, then, named_piece}
use Rattle.outline_sheet.specs.Sheet.{bytes2, header_bytes, number_bytes, sheet_bytes, sheet_size}

-- ---- how many bytes

pub header_length : (v : ℕ) (closed : Bool) → length (header_bytes v closed) ≡ 16
unfolding header_bytes bytes2 bytes4
header_length v closed = refl

pub numbers_length : (l : List Float) → length (number_bytes l) ≡ 8 * length l
unfolding number_bytes
numbers_length [] = refl
numbers_length (x ∷ l) = length-append (float_bytes x) (number_bytes l) ∙ omega (arith, float_length x, numbers_length l)

pub sheet_length : (s : List Float) (closed : Bool) → length (sheet_bytes s closed) ≡ sheet_size s
unfolding sheet_bytes
sheet_length s closed = length-append (header_bytes (count_of s) closed) (number_bytes s) ∙ omega (arith, header_length (count_of s) closed, numbers_length s)

-- ---- the loop: after k turns the first k numbers stand there

numbers_append : (a b : List Float) → number_bytes (a ++ b) ≡ number_bytes a ++ number_bytes b
unfolding number_bytes
numbers_append [] b = refl
numbers_append (x ∷ a) b = ap (λ (l : List ℕ). float_bytes x ++ l) (numbers_append a b) ∙ sym (append_assoc (float_bytes x) (number_bytes a) (number_bytes b))

one_more : (l : List Float) (k : ℕ) → k < length l → number_bytes (take k l) ++ float_bytes (get_or l k nan) ≡ number_bytes (take (k + 1) l)
unfolding number_bytes
one_more l k h =
    sym
    (ap number_bytes (ap (λ (n : ℕ). take n l) (add-one k) ∙ take-suc l k nan h)
    ∙ numbers_append (take k l) (get_or l k nan ∷ [])
    ∙ ap (λ (t : List ℕ). number_bytes (take k l) ++ t) (append-nil (float_bytes (get_or l k nan))))

pub record Writing (l : List Float) (before : List ℕ) (at k e : ℕ) (out : List ℕ) : Type 0 where
  pub few : k ≤ length l
  pub size : length out ≡ length before
  pub piece : Piece before at (number_bytes (take k l)) out e

pub writing_none : (l : List Float) (before : List ℕ) (at : ℕ) → Writing l before at 0 at before
unfolding number_bytes
writing_none l before at = record { few = omega arith; size = refl; piece = no_piece before at }

module _ {l : List Float} {before : List ℕ} {at k e : ℕ} {out : List ℕ} (w : Writing l before at k e out) where
  pub writing_more : {f : ℕ} {after : List ℕ} → k < length l → length after ≡ length out → Piece out e (float_bytes (get_or l k nan)) after f → Writing l before at (k + 1) f after
  writing_more h n p = record { few = omega arith; size = n ∙ w.size; piece = named_piece (one_more l k h) (then w.piece p) }

  pub writing_all : length l ≤ k → Piece before at (number_bytes l) out e
  writing_all h = named_piece (ap number_bytes (take_all k l h)) w.piece
