-- The mark picks the case; a cut view lists.
use mathlib.Core.Path.{◌≡◌, sym, ap, subst, ◌∙◌}
use native.Mathlib.Omega.{arith}
use lib.ListN.{length}
use Rattle.view.specs.Validation.{cut, hold, mark_case, verdict_of}
use Rattle.job.specs.Views.{mark_text, mark_buffer, list_numbers_of, Lists}
use Rattle.job.proofs.Lengths.{view_length}
use Rattle.job.proofs.Viewing.{given_text, given_buffer, cut_lists}
use Rattle.job.proofs.Parting.{named_part}
use Rattle.job.proofs.part.View.put_marked.Goals as goal

pub put_cut-requires : goal.put_cut-requires
put_cut-requires c =
    let v = c.args.self.now in
    let q = sym (ap mark_case c.in-Cut.is) ∙ c.mark.ensures in
    subst (Lists v.outline.now v.d) (let e : list_numbers_of ≡ length c.args.list.now = omega arith in e) (cut_lists v.closed v.outline.now v.d (verdict_of c.args.verdict) c.requires q)

pub returns-in-Cut : goal.returns-in-Cut
unfolding mark_buffer
returns-in-Cut c =
    let v = c.args.self.now in
    let l = c.args.list.now in
    let e = c.requires in
    let q = sym (ap mark_case c.in-Cut.is) ∙ c.mark.ensures in
    record {
      text = named_part (given_text v.closed v.outline.now v.d v.k l _ _ cut e c.number-number.ensures q) c.put_cut.ensures.text;
      list = c.put_cut.ensures.list ∙ given_buffer v.closed v.outline.now v.d v.k l _ cut e q;
    }

pub returns-in-Hold : goal.returns-in-Hold
unfolding mark_text mark_buffer
returns-in-Hold c =
    let v = c.args.self.now in
    let l = c.args.list.now in
    let e = c.requires in
    let q = sym (ap mark_case c.in-Hold.is) ∙ c.mark.ensures in
    let length = view_length v.k c.number-number.result hold 0 v.d.cut_number v.few (omega arith) (omega arith) in
    record {
      text = named_part (given_text v.closed v.outline.now v.d v.k l _ _ hold e c.number-number.ensures q) (record { piece = c.put_view_line.ensures; short = omega arith });
      list = given_buffer v.closed v.outline.now v.d v.k l _ hold e q;
    }
