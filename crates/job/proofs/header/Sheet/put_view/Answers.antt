-- The record stands in the sheet where the header says.
use mathlib.Core.Path.{ap, ap₂, ◌∙◌}
use mathlib.Core.Bool.{Bool}
use Rattle.view.specs.declared.view_data.PlineViewData.{PlineViewData}
use Rattle.record.specs.Record.{record_value}
use Rattle.job.specs.Header.{closed}
use Rattle.job.specs.Views.{view_text, view_buffer}
use Rattle.job.specs.Parts.{view_part, view_buffer_of}
use Rattle.job.proofs.Parting.{named_part}
use Rattle.job.proofs.header.Sheet.put_view.Goals as goal

pub returns : goal.returns
unfolding view_part view_buffer_of
returns c =
    let a = c.args in
    let s = a.outline.now in
    let t = c.is_closed.ensures ∙ ap closed a.self.now.is in
    let d = c.record_of.ensures ∙ ap record_value c.record.ensures in
    record {
      text = named_part (ap₂ (λ (t : Bool) (d : PlineViewData). view_text t s a.k d) t d) c.put.ensures.text;
      list = c.put.ensures.list ∙ ap₂ (λ (t : Bool) (d : PlineViewData). view_buffer t s d a.list.now) t d;
    }
