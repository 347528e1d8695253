-- The definition's vectors, by the promises of the vector calls.
use Rattle.seg.specs.Tangent.{arc_tangent_of}
use Rattle.seg.proofs.tangent.arc_tangent.Goals as goal

pub returns : goal.returns
unfolding arc_tangent_of
returns c =
    simp (c.chord-c.ensures, c.pos.ensures, c.sub.ensures, c.scale.ensures, c.sub-point_offset.ensures, c.scale-2.ensures, c.perp.ensures, c.scale-3.ensures, c.add-numerator.ensures, c.magnitude.ensures, c.scale-4.ensures)
