-- Each vertex is tested as the definition tests it.
use mathlib.Core.Path.{ap, ◌∙◌}
use Rattle.std.proofs.Common.{rules}
use Rattle.plane.specs.Grade.{double}
use Rattle.plane.specs.Range.{vertex_ok}
use Rattle.view.specs.Outline.{all}
use Rattle.job.specs.declared.header.Header.{Header}
use Rattle.job.specs.Outline.{vertex_in_of}
use Rattle.job.proofs.Ranges.{all_below}
use Rattle.job.proofs.header.Sheet.vertices_are_sound.Goals as goal

pub returns : goal.returns
returns c =
    let s = c.args.self.now in
    all_below (λ k. vertex_ok double (vertex_in_of s.bytes.now k)) s.header.vertices c.all.ensures.ran (λ x b q k. search rules)
    ∙ ap (λ (h : Header). all (λ k. vertex_ok double (vertex_in_of s.bytes.now k)) h.vertices) s.is
