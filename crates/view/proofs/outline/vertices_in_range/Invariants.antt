-- The loop's invariant: each vertex passed is in range.
use mathlib.Core.Path.{◌≡◌}
use mathlib.Core.Bool.{true}
use Rattle.plane.specs.Grade.{double}
use Rattle.plane.specs.Range.{vertex_ok}
use Rattle.view.specs.Outline.{vertex_value, all}
use Rattle.view.proofs.outline.vertices_in_range.Given as goal

abbrev pub invariant-loop-k : goal.invariant-loop-k
invariant-loop-k l = all (λ i. vertex_ok double (vertex_value l.source i)) l.k ≡ true
