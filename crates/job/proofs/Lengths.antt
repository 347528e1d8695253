-- The lines of a sheet's text are short: a cut number has at most 20 digits, any other number at most four, a float 17 bytes with its space.
use mathlib.Core.Bool.{Bool, true, false}
use mathlib.Core.List.{List, ◌++◌}
use Prim.Native.Nat.{ℕ, zero, suc, ◌+◌, ◌*◌, ◌≤◌, ◌<◌}
use native.Mathlib.Omega.{arith}
use lib.ListN.{length, length-append}
use lib.Ieee.{Float}
use Rattle.seg.specs.declared.bounds.Bounds.{Bounds}
use Rattle.plane.specs.Range.{most_vertices}
use Rattle.view.specs.Validation.{MarkCase, cut, hold}
use Rattle.text.specs.Digits.{decimal}
use Rattle.text.proofs.Digits.{decimal_length, decimal_most, float_length}
use Rattle.job.specs.Rows.{row, row_bytes, joined, rows}
use Rattle.job.specs.Views.{part_bytes}
use Rattle.job.specs.Lines.{refused_line, closed_word_of, outline_line, floats, box_words, no_box_words, box_end, view_head, mark_word, number_field, view_line}

four : (n : ℕ) → n < 10000 → length (decimal n) ≤ 4
four n h = decimal_length 3 n h (omega arith)

pub refused_length : (n : ℕ) → n < 10000 → length (refused_line n) ≤ 13
unfolding refused_line
refused_length n h = simp length-append (omega (arith, four n h))

closed_length : (b : Bool) → length (closed_word_of b) ≤ 8
closed_length true = omega arith
closed_length false = omega arith

pub outline_length : (v w : ℕ) (b : Bool) → v < 10000 → w < 10000 → length (outline_line v w b) ≤ 25
unfolding outline_line
outline_length v w b h k = simp length-append (omega (arith, four v h, four w k, closed_length b))

end_length : (retired : Bool) → length (box_end retired) ≤ 9
end_length true = omega arith
end_length false = omega arith

pub box_length : (b : Bounds) (retired : Bool) → length (box_words b ++ box_end retired) ≤ 80
unfolding box_words floats
box_length b retired = simp (length-append, float_length) (omega (arith, end_length retired))

pub no_box_length : (retired : Bool) → length (no_box_words ++ box_end retired) ≤ 17
no_box_length retired = simp length-append (omega (arith, end_length retired))

pub head_length : (k : ℕ) → k < 10000 → length (view_head k) ≤ 10
unfolding view_head
head_length k h = simp length-append (omega (arith, four k h))

pub refused_view_length : (k n : ℕ) → k < 10000 → n < 10000 → length (view_head k ++ refused_line n) ≤ part_bytes
refused_view_length k n h i = simp length-append (omega (arith, head_length k h, refused_length n i))

mark_length : (m : MarkCase) → length (mark_word m) ≤ 6
mark_length cut = omega arith
mark_length hold = omega arith

pub view_length : (k n : ℕ) (m : MarkCase) (c number : ℕ) → k < 10000 → n < 10000 → c < 10000 → length (view_line k n m c number) ≤ 46
unfolding view_line number_field
view_length k n m c number h i j = simp length-append (omega (arith, head_length k h, four n i, mark_length m, four c j, decimal_most number))

pub rows_length : (l : List Float) (n : ℕ) → n ≤ 10000 → length (rows l n) ≤ row_bytes * n
unfolding rows joined row
rows_length l zero h = omega arith
rows_length l (suc n) h =
    let r = rows_length l n (omega arith) in
    simp (length-append, float_length) (omega (arith, r, four n (omega arith)))

pub cut_length : (k n c number : ℕ) (l : List Float) → k < 10000 → n < 10000 → c ≤ most_vertices + 2 → length (view_line k n cut c number ++ rows l c) ≤ part_bytes
cut_length k n c number l h i j = simp length-append (omega (arith, view_length k n cut c number h i (omega arith), rows_length l c (omega arith)))
