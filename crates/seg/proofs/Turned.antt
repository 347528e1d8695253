-- A point off the arc turns it: each case computes.
use mathlib.Core.Path.{refl}
use lib.Ieee.{of_bits, neg, add, sub, mul, div, lt, le, eq}
use Rattle.real.specs.Reply.{and_then}
use Rattle.real.specs.Root.{abs_of, root_of}
use Rattle.plane.specs.Range.{coord_ok, bulge_ok, tol_ok, limit_ok, point_ok, vertex_ok, seg_ok}
use Rattle.seg.specs.Split.{part_bulge, ratio_sq, split_chords_of, split_arc_of, split_of, seg_split}
use Rattle.seg.specs.SplitRow.{split_row}
use Rattle.seg.specs.Turned.{Turned}

pub turned : Turned
unfolding of_bits neg add sub mul div lt le eq and_then abs_of root_of coord_ok bulge_ok tol_ok limit_ok point_ok vertex_ok seg_ok part_bulge ratio_sq split_chords_of split_arc_of split_of seg_split split_row
turned = record { results = refl; first_on = refl; second_on = refl; stops = refl }
