-- The line stands at the buffer's start.
use native.Mathlib.Omega.{arith}
use Rattle.job.proofs.Lengths.{refused_length}
use Rattle.job.proofs.Parting.{part_filled}
use Rattle.job.proofs.part.refused_sheet.Goals as goal

pub returns : goal.returns
returns c =
    let short = refused_length c.args.number (omega arith) in
    part_filled (record { piece = c.put_refused.ensures; short = omega arith }) (omega arith)
