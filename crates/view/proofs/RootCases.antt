-- Each count is reached: the cases compute.
use mathlib.Core.Path.{refl}
use lib.Ieee.{neg, add, sub, mul, div, of_bits, of_fields, odd, le, lt, eq}
use Rattle.real.specs.Root.{abs_of, root_of}
use Rattle.plane.specs.Range.{whole_outline, coord_ok, bulge_ok, limit_ok, point_ok, vertex_ok}
use Rattle.seg.specs.Arc.{center_of}
use Rattle.seg.specs.Closest.{radial_scale_by, radial_by, arc_closest_by, closest_by}
use Rattle.view.specs.Outline.{all, numbers_ok}
use Rattle.view.specs.Record.{record_ok}
use Rattle.view.specs.Segment.{near_closest_by, on_segment_by, on_outline_by}
use Rattle.view.specs.Validation.{bulges_match_of, end_verdict, placed_by, counts_by, validate_by}
use Rattle.view.specs.Cases.{Q, like_r}
use Rattle.view.specs.Roots.{Arch, along, RootCases}

pub root_cases : RootCases
unfolding Arch along Q like_r neg add sub mul div lt le eq of_bits of_fields odd abs_of root_of coord_ok bulge_ok limit_ok point_ok vertex_ok whole_outline all numbers_ok record_ok validate_by counts_by placed_by end_verdict bulges_match_of on_outline_by on_segment_by near_closest_by closest_by arc_closest_by radial_by radial_scale_by center_of
root_cases = record { zero_roots = refl; one_root = refl; two_roots = refl; one_point = refl; start_is_off = refl; at_centre = refl; end_is_off = refl; lines = refl }
