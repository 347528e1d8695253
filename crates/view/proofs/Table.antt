-- The table of document 01's cases holds: each computes, and the lists come by demand 3.
use mathlib.Core.Path.{◌≡◌, refl, subst}
use mathlib.Core.List.{List, [], ◌∷◌}
use native.Mathlib.Omega.{arith}
use lib.Ieee.{Float, neg, add, sub, mul, div, of_bits, of_fields, odd, le, lt, eq}
use Rattle.real.specs.Root.{abs_of}
use Rattle.plane.specs.Grade.{double}
use Rattle.plane.specs.Range.{whole_outline, coord_ok, bulge_ok, limit_ok, point_ok, vertex_ok}
use Rattle.seg.specs.Closest.{arc_closest_by, closest_by}
use Rattle.seg.proofs.Table.{segment_table}
use Rattle.view.specs.Segment.{near_closest_by, on_segment_by, on_outline_by}
use Rattle.view.specs.Validation.{bulges_match_of, end_verdict, placed_by, counts_by, validate_by}
use Rattle.view.specs.Table.{Table}
use Rattle.lists.specs.Plain.{Vert, tab, Step, turn, trim, turn_at, trim_at, turn_list, trim_list, step_list, row_list}
use Rattle.lists.specs.View.{forward, vertex_at_of, view_list}
use Rattle.view.specs.Outline.{viewable, all, numbers_ok}
use Rattle.view.specs.Record.{listed, record_ok}
use Rattle.view.specs.Check.{place_of, check_of}
use Rattle.view.specs.Answers.{list_of}
use Rattle.view.specs.Rows.{row}
use Rattle.view.specs.Demand3.{Unrefused, Even, Lists}
use Rattle.view.specs.Cases.{Q, R, like_r}
use Rattle.view.proofs.Demand3.{demand3}

unrefused : Unrefused double Q R
unfolding Q like_r list_of check_of place_of viewable whole_outline numbers_ok all record_ok coord_ok bulge_ok point_ok vertex_ok abs_of le lt eq of_bits of_fields odd
unrefused = record { buffer = 12; count = 4; answer = refl }

even : Even double R
unfolding like_r
even e = absurd (omega arith)

-- what a row of steps of R lists, once its list is worked out
lists : (ts : List Step) (l : List (Vert Float)) → row_list neg double.zero ts (listed double Q R) ≡ l → Lists double Q (row double Q ts R) l
lists ts l e = subst (Lists double Q (row double Q ts R)) e ((demand3 double Q R unrefused even).rows ts).lists

pub table : Table
unfolding Q like_r row row_list step_list turn_list turn_at trim_list trim_at view_list vertex_at_of forward tab neg add sub mul div lt le eq of_bits of_fields odd abs_of coord_ok bulge_ok limit_ok point_ok vertex_ok viewable whole_outline all numbers_ok record_ok validate_by counts_by placed_by end_verdict bulges_match_of on_outline_by on_segment_by near_closest_by closest_by arc_closest_by
table =
    record {
      segments = segment_table;
      p7 = lists [] _ refl;
      p8 = lists (turn ∷ []) _ refl;
      p9 = lists (turn ∷ trim 1 2 ∷ []) _ refl;
      p10_five = refl;
      p10_four = refl;
      p11 = refl;
    }
