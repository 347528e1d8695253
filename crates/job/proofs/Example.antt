-- Document 01's example, its cut number at both ends, and the two retired sheets, computed from the definitions.
use mathlib.Core.Path.{refl}
use lib.Ieee.{of_bits, to_bits, neg, add, sub, mul, div, lt, le, eq}
use Rattle.real.specs.Root.{abs_of, root_of}
use Rattle.plane.specs.Range.{whole_outline, coord_ok, bulge_ok, limit_ok, point_ok, vertex_ok}
use Rattle.seg.specs.Arc.{radius_of, center_of}
use Rattle.seg.specs.Closest.{arc_closest_by, closest_by}
use Rattle.seg.specs.Bounds.{start_radius, end_radius, arc_box_by, arc_box_of, box_of}
use Rattle.lists.specs.Plain.{tab}
use Rattle.lists.specs.View.{forward, vertex_at_of, view_list}
use Rattle.view.specs.Outline.{all, numbers_ok}
use Rattle.view.specs.Record.{record_ok}
use Rattle.view.specs.Segment.{near_closest_by, on_segment_by, on_outline_by}
use Rattle.view.specs.Validation.{bulges_match_of, end_verdict, placed_by, counts_by, validate_by, across_gap, mark_of}
use Rattle.record.specs.Bytes.{le16, le32, le64, float_at}
use Rattle.text.specs.Digits.{hex, decimals, decimal, float}
use Rattle.job.specs.Rows.{row, numbered}
use Rattle.job.specs.Header.{header_under, header_good}
use Rattle.record.specs.Record.{fields_ok}
use Rattle.job.specs.Outline.{numbers_in}
use Rattle.job.specs.Extent.{box_to}
use Rattle.job.specs.Sheet.{records_of, sheet_of}
use Rattle.job.specs.Lines.{refused_line, outline_line, floats, box_words, view_head, number_field, view_line}
use Rattle.job.specs.Views.{mark_text, verdict_text, view_text}
use Rattle.job.specs.Parts.{box_line, whole_text, sheet_text}
use Rattle.job.specs.Example.{Examples}

pub examples : Examples
unfolding of_bits to_bits neg add sub mul div lt le eq abs_of root_of whole_outline coord_ok bulge_ok limit_ok point_ok vertex_ok radius_of center_of arc_closest_by closest_by start_radius end_radius arc_box_by arc_box_of box_of tab forward vertex_at_of view_list all numbers_ok record_ok near_closest_by on_segment_by on_outline_by bulges_match_of end_verdict placed_by counts_by validate_by across_gap mark_of le16 le32 le64 float_at hex decimals decimal float row numbered header_under header_good fields_ok numbers_in box_to records_of sheet_of refused_line outline_line floats box_words view_head number_field view_line mark_text verdict_text view_text box_line whole_text sheet_text
examples = record { example = refl; first = refl; last = refl; retired = refl; empty = refl }
