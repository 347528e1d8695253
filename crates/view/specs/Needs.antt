-- What the inner functions ask of their callers, who have made the checks, and what a vertex number is that they hand back.
use Rattle.std.specs.Prelude.{◌≡◌, ℕ, ◌<◌, ◌≤◌, Bool, List, Float}
use Rattle.plane.specs.Range.{most_vertices}
use Rattle.view.specs.Outline.{count_of}
use Rattle.view.specs.Record.{vertices}
use Rattle.view.specs.declared.view_data.PlineViewData.{PlineViewData}
use Rattle.real.specs.declared.square_root.Rooted.{Rooted}

-- an index below the vertex count, and steps of at most one round
pub record Wraps (index steps n : ℕ) : Type 0 where
  pub below : index < n
  pub round : steps ≤ n

-- r is the vertex number k, and a number of n vertices
pub record Numbers (k n r : ℕ) : Type 0 where
  pub is : r ≡ k
  pub below : r < n

-- an outline of two vertices or more and not too many, and a record whose start and offset lie in it
pub record Placed (s : List Float) (d : PlineViewData) : Type 0 where
  pub few : count_of s ≤ most_vertices
  pub two : 2 ≤ count_of s
  pub start : d.start_index < count_of s
  pub offset : d.end_index_offset ≤ count_of s

-- two positions of a view's list, the first before the last
pub record Positions (d : PlineViewData) (a b : ℕ) : Type 0 where
  pub below : a < b
  pub within : b < vertices d

-- a start and an offset in an outline, and a position between the first and the last
pub record Inner (s : List Float) (start offset k : ℕ) : Type 0 where
  pub below : start < count_of s
  pub round : offset ≤ count_of s
  pub past : 0 < k
  pub within : k ≤ offset

-- the end's test, and the start's roots: at most one each
pub record FewRoots (ended : Rooted Bool) (roots : ℕ) : Type 0 where
  pub last : ended.roots ≤ 1
  pub first : roots ≤ 1
