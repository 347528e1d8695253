-- The limit decides only which segments are lines: where two limits agree on that for every segment of an outline, views of it are made and judged alike, roots and all. proofs/LimitAlone.antt proves it.
use Rattle.std.specs.Prelude.{◌≡◌, Bool, List, ℕ, ◌<◌, Float}
use Rattle.plane.specs.Grade.{Grade}
use Rattle.plane.specs.declared.vector2.Vector2.{Vector2}
use Rattle.plane.specs.declared.pline_vertex.PlineVertex.{PlineVertex}
use Rattle.seg.specs.LimitAlone.{SameLine}
use Rattle.view.specs.Outline.{vertex_value, count_of}
use Rattle.view.specs.Create.{create_of, new_start_of}
use Rattle.view.specs.Validation.{validate_of, validate_counted, mark_answer}
use Rattle.view.specs.declared.view_data.PlineViewData.{PlineViewData}

module _ (g : Grade) (limit other : Float) (s : List Float) where
  -- each segment of the outline is a line by both limits, or by neither
  abbrev pub SameLines : Type 0
  SameLines = (k : ℕ) → k < count_of s → SameLine g limit other (vertex_value s k)

  pub record LimitAlone : Type 0 where
    pub create : (start : ℕ) (p : Vector2) (at : ℕ) (first : PlineVertex) (traverse : ℕ) (eps : Float) → create_of g limit s start p at first traverse eps ≡ create_of g other s start p at first traverse eps
    pub new_start : (closed : Bool) (p : Vector2) (start : ℕ) (eps : Float) → new_start_of g limit s closed p start eps ≡ new_start_of g other s closed p start eps
    pub verdict : (d : PlineViewData) → validate_counted g limit s d ≡ validate_counted g other s d
    pub mark : (closed : Bool) (d : PlineViewData) → mark_answer closed s d (validate_of g limit s d) ≡ mark_answer closed s d (validate_of g other s d)
