-- A refusal is printed, and a verdict by its promise.
use native.Mathlib.Omega.{arith}
use Rattle.std.specs.Prelude.{Ok, Err}
use Rattle.plane.specs.Grade.{double}
use Rattle.view.proofs.Roots.{verdict_told}
use Rattle.job.proofs.Lengths.{refused_view_length}
use Rattle.job.proofs.Viewing.{refused_text, refused_buffer}
use Rattle.job.proofs.Parting.{named_part}
use Rattle.job.proofs.part.View.put.Goals as goal

pub put_marked-requires : goal.put_marked-requires
put_marked-requires c =
    verdict_told double double.line _ _ (Ok c.in-Ok.judged) c.in-Ok.ensures

pub returns-in-Err : goal.returns-in-Err
returns-in-Err c =
    let v = c.args.self.now in
    let l = c.args.list.now in
    let e = verdict_told double double.line _ _ (Err c.in-Err.refusal) c.in-Err.ensures in
    let n = rw (← c.from.ensures) at e in
    record {
      text = named_part (refused_text v.closed v.outline.now v.d v.k l _ n) (record { piece = c.put_refused_view.ensures; short = refused_view_length v.k c.from.result v.few (omega arith) });
      list = refused_buffer v.closed v.outline.now v.d v.k l _ e;
    }
