-- What a mark of cut says, in the words of document 01 and of the rule for open outlines. proofs/Cut.antt proves that it says exactly this.
use Rattle.std.specs.Prelude.{◌≡◌, Bool, true, false, List, ◌+◌, ◌-◌, ◌<◌, ◌≤◌, length, Float}
use Rattle.plane.specs.Grade.{Grade}
use Rattle.plane.specs.Vec.{vnear_of}
use Rattle.plane.specs.Vertex.{pos_of}
use Rattle.plane.specs.Range.{whole_outline, limit_ok}
use Rattle.lists.specs.View.{wrapped}
use Rattle.view.specs.Outline.{vertex_value, count_of, numbers_ok}
use Rattle.view.specs.Record.{record_ok}
use Rattle.view.specs.Segment.{on_outline}
use Rattle.view.specs.Validation.{bulges_match_of}
use Rattle.view.specs.declared.view_data.PlineViewData.{PlineViewData}

pub record Cut (closed : Bool) (g : Grade) (limit : Float) (s : List Float) (d : PlineViewData) : Type 0 where
  -- the outline is whole vertices, and every number and the limit are in range
  pub whole : whole_outline (length s) ≡ true
  pub outline : numbers_ok g s ≡ true
  pub numbers : record_ok g d ≡ true
  pub limited : limit_ok g limit ≡ true
  -- it has a segment, and start and offset lie in it
  pub two : 2 ≤ count_of s
  pub offset : d.end_index_offset ≤ count_of s
  pub start : d.start_index < count_of s
  -- "0.001 mm says whether a point is on a segment": the start on its segment, and the end on its
  pub on_start : on_outline g limit s d.start_index (pos_of d.updated_start) ≡ true
  pub on_end : on_outline g limit s (wrapped d.start_index d.end_index_offset (count_of s)) d.end_point ≡ true
  -- "0.00001 mm whether an end sits on a vertex": it does not sit on its segment's first
  pub apart : vnear_of g d.end_point (pos_of (vertex_value s (wrapped d.start_index d.end_index_offset (count_of s)))) g.on_vertex ≡ false
  -- on one segment the two bulges match
  pub bulges : bulges_match_of g d ≡ true
  -- on an open outline it ends before the last vertex: start index plus offset does not reach the vertex count less 1
  pub gap : closed ≡ false → d.start_index + d.end_index_offset < count_of s - 1
