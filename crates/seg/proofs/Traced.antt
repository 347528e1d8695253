-- A traced arc is a line at a limit above its bulge: each case computes.
use mathlib.Core.Path.{refl}
use lib.Ieee.{of_bits, neg, add, sub, mul, div, lt, le, eq}
use Rattle.real.specs.Root.{abs_of, root_of}
use Rattle.plane.specs.Range.{coord_ok, bulge_ok, tol_ok, limit_ok, point_ok, vertex_ok, seg_ok}
use Rattle.seg.specs.Arc.{radius_of, center_of, seg_circle}
use Rattle.seg.specs.Closest.{radial_scale_by, radial_by, arc_closest_by, closest_by, seg_closest}
use Rattle.seg.specs.Middle.{arc_mid, mid_of, seg_mid}
use Rattle.seg.specs.Bounds.{start_radius, end_radius, arc_box_by, arc_box_of, box_of, seg_box}
use Rattle.seg.specs.Traced.{Traced}

pub traced : Traced
unfolding of_bits neg add sub mul div lt le eq abs_of root_of coord_ok bulge_ok tol_ok limit_ok point_ok vertex_ok seg_ok radius_of center_of seg_circle radial_scale_by radial_by arc_closest_by closest_by seg_closest arc_mid mid_of seg_mid start_radius end_radius arc_box_by arc_box_of box_of seg_box
traced = record { arc = refl; straight = refl; arc_box = refl; line_box = refl; arc_point = refl; line_point = refl; strict = refl; line_end = refl; arc_ends = refl }
