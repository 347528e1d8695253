-- Each record is tested as the definition tests it.
use mathlib.Core.Path.{ap, ◌∙◌}
use Rattle.std.proofs.Common.{rules}
use Rattle.record.specs.Record.{fields_ok}
use Rattle.view.specs.Outline.{all}
use Rattle.job.specs.declared.header.Header.{Header}
use Rattle.job.specs.Sheet.{record_at_of}
use Rattle.job.proofs.Ranges.{all_below}
use Rattle.job.proofs.header.Sheet.records_are_sound.Goals as goal

pub returns : goal.returns
returns c =
    let s = c.args.self.now in
    all_below (λ k. fields_ok (record_at_of s.bytes.now k)) s.header.views c.all.ensures.ran (λ x b q k. search rules)
    ∙ ap (λ (h : Header). all (λ k. fields_ok (record_at_of s.bytes.now k)) h.views) s.is
