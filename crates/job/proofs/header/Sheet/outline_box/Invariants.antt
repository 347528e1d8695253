-- After k turns the box is that of the segments 0 to k.
use mathlib.Core.Path.{◌≡◌}
use Rattle.job.specs.Outline.{vertex_in_of}
use Rattle.job.specs.Extent.{box_to}
use Rattle.job.proofs.header.Sheet.outline_box.Given as goal

abbrev pub invariant-loop-k : goal.invariant-loop-k
invariant-loop-k l = l.b ≡ box_to (vertex_in_of l.self.bytes.now) l.self.header.vertices l.k
