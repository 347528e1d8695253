-- The accepted text: the first LWPOLYLINE of a file, pair by pair.
use Rattle.std.specs.Prelude.{ℕ, ◌-◌, ◌%◌, Bool, true, false, cond, ◌&&◌, List, [], ◌∷◌, ◌++◌, length, set, leb, eqb, Float, Option, None, Some}
use Rattle.real.specs.Refusal.{bad_text}
use Rattle.real.specs.Reply.{Reply, refused, given, check, and_then}
use Rattle.plane.specs.Grade.{double}
use Rattle.view.specs.Outline.{count_of}
use Rattle.text.specs.Ascii.{ascii}
use Rattle.numeral.specs.Digits.{is_whole, value_of}
use Rattle.numeral.specs.Decimal.{number_of}
use Rattle.dxf.specs.Item.{Item, pair, lone, odd}

-- What has been read of the entity: the last 90, if there was one; whether the last 70 is odd; the x of a 10 that waits for its 20; the outline so far,
-- in threes.
pub record Seen : Type 0 where
  pub count : Option ℕ
  pub closed : Bool
  pub waits : Option Float
  pub numbers : List Float

-- "70 absent means 0"
abbrev pub start : Seen
start = record { count = None; closed = false; waits = None; numbers = [] }

-- ---- what each code does with its value v

-- "90 count", "digits only, the last of several counts"
unfoldable pub count_step : Seen → List ℕ → Reply Seen
count_step s v = check (is_whole v) bad_text (given (record { count = Some (value_of v); closed = s.closed; waits = s.waits; numbers = s.numbers }))

-- "70 closed if odd", "digits only, the last of several counts"
unfoldable pub closed_step : Seen → List ℕ → Reply Seen
closed_step s v = check (is_whole v) bad_text (given (record { count = s.count; closed = eqb (value_of v % 2) 1; waits = s.waits; numbers = s.numbers }))

-- "10 and 20 position, 42 bulge, absent meaning 0"
unfoldable pub x_step : Seen → List ℕ → Reply Seen
x_step s v = and_then (number_of v) (λ x. given (record { count = s.count; closed = s.closed; waits = Some x; numbers = s.numbers }))

unfoldable pub y_step : Seen → Float → List ℕ → Reply Seen
y_step s x v = and_then (number_of v) (λ y. given (record { count = s.count; closed = s.closed; waits = None; numbers = s.numbers ++ (x ∷ y ∷ double.zero ∷ []) }))

-- "a 42 belongs to the vertex before it, the last one counts, and a 42 before any vertex is an odd line"
unfoldable pub bulge_step : Seen → List ℕ → Reply Seen
bulge_step s v =
    check (leb 1 (length s.numbers)) bad_text
    (and_then (number_of v) (λ z. given (record { count = s.count; closed = s.closed; waits = s.waits; numbers = set s.numbers (length s.numbers - 1) z })))

-- "Each 10 begins a vertex, whose 20 must follow at once"; "as is any other 20"; "other codes are skipped in pairs"
unfoldable pub step_from : Option Float → Seen → ℕ → List ℕ → Reply Seen
step_from (Some x) s c v = cond (eqb c 20) (y_step s x v) (refused bad_text)
step_from None s c v =
    cond (eqb c 90) (count_step s v)
    (cond (eqb c 70) (closed_step s v)
    (cond (eqb c 10) (x_step s v)
    (cond (eqb c 20) (refused bad_text)
    (cond (eqb c 42) (bulge_step s v) (given s)))))

unfoldable pub step_of : Seen → ℕ → List ℕ → Reply Seen
step_of s c v = step_from s.waits s c v

-- ---- the entity

unfoldable pub counts : Option ℕ → ℕ → Bool
counts None n = false
counts (Some c) n = eqb c n

unfoldable pub settled : Option Float → Bool
settled None = true
settled (Some x) = false

-- "or a count absent or different"; nor may a 10 wait
unfoldable pub end_of : Seen → Reply Seen
end_of s = check (settled s.waits && counts s.count (count_of s.numbers)) bad_text (given s)

-- "The next code 0 or the file's end closes the entity; nothing after it is read": the closing code 0 needs no value line
unfoldable pub body_of : Seen → List Item → Reply Seen
body_of s [] = end_of s
body_of s (odd ∷ t) = refused bad_text
body_of s (lone c ∷ t) = cond (eqb c 0) (end_of s) (refused bad_text)
body_of s (pair c v ∷ t) = cond (eqb c 0) (end_of s) (and_then (step_of s c v) (λ r. body_of r t))

-- ---- the file

unfoldable pub same : List ℕ → List ℕ → Bool
same [] [] = true
same [] (b ∷ t) = false
same (a ∷ s) [] = false
same (a ∷ s) (b ∷ t) = eqb a b && same s t

abbrev pub name : List ℕ
name = ascii "LWPOLYLINE"

-- "Read the first LWPOLYLINE"; "13 for no such entity, an odd line"
unfoldable pub entity_of : List Item → Reply Seen
entity_of [] = refused bad_text
entity_of (odd ∷ t) = refused bad_text
entity_of (lone c ∷ t) = refused bad_text
entity_of (pair c v ∷ t) = cond (eqb c 0 && same v name) (body_of start t) (entity_of t)
