-- What a call answers, and what the lent buffer holds afterwards.
use Rattle.std.specs.Prelude.{ℕ, Bool, cond, ◌≡◌, List, ◌++◌, length, drop, leb, Float, Result}
use Rattle.real.specs.Refusal.{bad_number, bad_outline, lacks_room}
use Rattle.real.specs.Reply.{Reply, refused, given, check, and_then, reply}
use Rattle.real.specs.declared.refusal.Refusal.{Refusal}
use Rattle.plane.specs.Grade.{double}
use Rattle.plane.specs.Range.{most_vertices}
use Rattle.view.specs.Outline.{count_of, numbers_ok}
use Rattle.dxf.specs.Line.{lines_of}
use Rattle.dxf.specs.Item.{items_of}
use Rattle.dxf.specs.Entity.{entity_of}
use Rattle.dxf.specs.declared.outline.DxfOutline.{DxfOutline}

-- an outline: its numbers in threes, and whether it is closed
pub record Drawn : Type 0 where
  pub numbers : List Float
  pub closed : Bool

-- "3 over the vertex limit; 1 out of range"
unfoldable pub judged : List Float → Bool → Reply Drawn
judged l c = check (leb (count_of l) most_vertices) bad_outline (check (numbers_ok double l) bad_number (given (record { numbers = l; closed = c })))

-- the outline of a text: "Refusals in order: 13 ..; 3 ..; 1 .."
unfoldable pub outline_of : List ℕ → Reply Drawn
outline_of b = and_then (entity_of (items_of (lines_of b))) (λ s. judged s.numbers s.closed)

-- ---- "The outline goes to a lent buffer": of m numbers, "8 for room"

unfoldable pub room_for : ℕ → Drawn → Reply DxfOutline
room_for m o = check (leb (length o.numbers) m) lacks_room (given (record { vertices = count_of o.numbers; closed = o.closed }))

unfoldable pub outline_to : List ℕ → ℕ → Reply DxfOutline
outline_to b m = and_then (outline_of b) (room_for m)

-- what it holds afterwards: a refusal "writes to no buffer", and "places past the list keep what they held"
unfoldable pub handed_over : Reply Drawn → List Float → List Float
handed_over (refused n) before = before
handed_over (given o) before = cond (leb (length o.numbers) (length before)) (o.numbers ++ drop (length o.numbers) before) before

unfoldable pub outline_buffer : List ℕ → List Float → List Float
outline_buffer b before = handed_over (outline_of b) before

-- ---- the word of the inner contracts

abbrev pub Answers : Reply Drawn → Result DxfOutline Refusal → List Float → List Float → Type 0
Answers d r before after = (reply r ≡ and_then d (room_for (length before))) × (after ≡ handed_over d before)
