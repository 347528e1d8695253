-- The view lists, so that the buffer holds the list whose rows follow the line.
use mathlib.Core.Path.{◌≡◌, ap, ◌∙◌}
use mathlib.Core.List.{List, ◌++◌}
use Prim.Native.Nat.{ℕ}
use native.Mathlib.Omega.{arith}
use lib.Ieee.{Float}
use Rattle.view.specs.Record.{vertices}
use Rattle.view.specs.Validation.{cut}
use Rattle.text.proofs.Writing.{then}
use Rattle.job.specs.Rows.{rows}
use Rattle.job.specs.Lines.{view_line}
use Rattle.job.specs.Views.{mark_text}
use Rattle.job.proofs.Given.{is_given}
use Rattle.job.proofs.Lengths.{cut_length}
use Rattle.job.proofs.Viewing.{list_written, list_rows}
use Rattle.job.proofs.Parting.{named_part}
use Rattle.job.proofs.part.View.put_cut.Goals as goal

pub returns : goal.returns
unfolding mark_text
returns c =
    let v = c.args.self.now in
    let s = v.outline.now in
    let l = c.args.list.now in
    let n : c.unwrap-count.result ≡ vertices v.d = cc (c.unwrap-count.ensures, is_given _ (c.list.ensures.0 ∙ c.requires.list)) in
    let line = λ (m : ℕ). view_line v.k c.args.number cut m v.d.cut_number in
    let listed = c.list.ensures.1 ∙ list_written s v.d l c.requires in
    record {
      text = named_part
          (ap (λ (m : ℕ). line m ++ rows c.list.new.out m) n ∙ ap (λ (u : List Float). line (vertices v.d) ++ rows u (vertices v.d)) listed ∙ ap (λ (u : List ℕ). line (vertices v.d) ++ u) (list_rows s v.d l))
          (record { piece = then c.put_view_line-e.ensures c.put_rows.ensures; short = cut_length v.k c.args.number _ _ _ v.few (omega arith) (omega (arith, n, c.requires.few)) });
      list = listed;
    }
