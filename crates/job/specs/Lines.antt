-- The lines of a sheet's text. "Fields: V, W, open or closed; least x, y, greatest x, y ..; view number, verdict, cut or hold, count",
-- and the cut number.
use Rattle.std.specs.Prelude.{ℕ, Bool, cond, List, ◌++◌, Float}
use Rattle.seg.specs.declared.bounds.Bounds.{Bounds}
use Rattle.view.specs.Validation.{MarkCase, cut, hold}
use Rattle.text.specs.Ascii.{ascii}
use Rattle.text.specs.Digits.{decimal, float}

-- "a refused sheet only `refused N`"
unfoldable pub refused_line : ℕ → List ℕ
refused_line n = ascii "refused " ++ decimal n ++ ascii "\n"

abbrev pub closed_word_of : Bool → List ℕ
closed_word_of closed = cond closed (ascii " closed\n") (ascii " open\n")

unfoldable pub outline_line : ℕ → ℕ → Bool → List ℕ
outline_line v w closed = ascii "outline " ++ decimal v ++ ascii " " ++ decimal w ++ closed_word_of closed

unfoldable pub floats : Float → Float → List ℕ
floats x y = float x ++ float y

-- a box line up to its end
unfoldable pub box_words : Bounds → List ℕ
box_words b = ascii "box" ++ floats b.min_x b.min_y ++ floats b.max_x b.max_y

abbrev pub no_box_words : List ℕ
no_box_words = ascii "box none"

-- "ends that line with the word `retired`"
abbrev pub box_end : Bool → List ℕ
box_end retired = cond retired (ascii " retired\n") (ascii "\n")

unfoldable pub view_head : ℕ → List ℕ
view_head k = ascii "view " ++ decimal k ++ ascii " "

abbrev pub mark_word : MarkCase → List ℕ
mark_word cut = ascii " cut "
mark_word hold = ascii " hold "

-- "The view line gains [the cut number] as a last field"
unfoldable pub number_field : ℕ → List ℕ
number_field n = ascii " " ++ decimal n ++ ascii "\n"

unfoldable pub view_line : ℕ → ℕ → MarkCase → ℕ → ℕ → List ℕ
view_line k verdict mark count number = view_head k ++ decimal verdict ++ mark_word mark ++ decimal count ++ number_field number
