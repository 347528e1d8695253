-- The words of the contracts on the reader's state.
use Rattle.std.specs.Prelude.{◌+◌, ◌*◌, ◌≤◌, ◌≡◌, List, length, take, Float, Result, Ok, Err}
use Rattle.std.specs.Option.{option_map}
use Rattle.real.specs.Refusal.{number_of}
use Rattle.real.specs.Reply.{Reply, refused, given}
use Rattle.real.specs.declared.refusal.Refusal.{Refusal}
use Rattle.plane.specs.Range.{most_vertices}
use Rattle.numeral.specs.Digits.{kept}
use Rattle.dxf.specs.Entity.{Seen}
use Rattle.dxf.specs.declared.state.State.{State}

-- the state s and the buffer a hold what m says; past the vertex limit the buffer is not written, and says nothing
pub record Holds (s : State) (a : List Float) (m : Seen) : Type 0 where
  pub count : s.count ≡ option_map kept m.count
  pub closed : s.closed ≡ m.closed
  pub waits : s.waits ≡ m.waits
  pub size : length m.numbers ≡ 3 * s.vertices
  pub held : s.vertices ≤ most_vertices → take (3 * s.vertices) a ≡ m.numbers

-- the answer r, with the buffer a, is what the definition says
unfoldable pub Read : Reply Seen → Result State Refusal → List Float → Type 0
Read d (Ok t) a = (m : Seen) × (d ≡ given m) × Holds t a m
Read d (Err e) a = d ≡ refused (number_of e)

-- the same from the state s, with at most a vertex more
unfoldable pub Steps : State → Reply Seen → Result State Refusal → List Float → Type 0
Steps s d (Ok t) a = (t.vertices ≤ s.vertices + 1) × (m : Seen) × (d ≡ given m) × Holds t a m
Steps s d (Err e) a = d ≡ refused (number_of e)
