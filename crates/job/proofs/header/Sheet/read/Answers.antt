-- The header is tested as the definition tests it.
use mathlib.Core.Path.{ap, ◌∙◌}
use lib.ListN.{length}
use Rattle.real.proofs.Pick.{passed, failed}
use Rattle.job.specs.declared.header.Header.{Header}
use Rattle.job.specs.Header.{header_fits_of, header_good}
use Rattle.job.proofs.Heads.{headed}
use Rattle.job.proofs.header.Sheet.read.Goals as goal

pub returns-then-not-fits : goal.returns-then-not-fits
unfolding header_good
returns-then-not-fits c =
    let n = length c.args.bytes.now in
    let e = failed (c.fits.ensures ∙ ap (λ (h : Header). header_fits_of h n) c.of-header.ensures) c.if-not-fits.true in
    simp e

pub invariant_of-result : goal.invariant_of-result
unfolding header_good
invariant_of-result c =
    let n = length c.args.bytes.now in
    let h = headed _ _ (passed (c.fits.ensures ∙ ap (λ (h : Header). header_fits_of h n) c.of-header.ensures) c.if-not-fits.false) c.of-header.ensures in
    record { is = h.is; good = h.good; vertices = h.vertices; views = h.views; offset = h.offset; size = h.size }
