-- After k turns the rows of the first k vertices stand in the buffer.
use mathlib.Core.Path.{sym, ap}
use native.Mathlib.Numerals.{add-one}
use native.Mathlib.Omega.{arith}
use lib.ListN.{length}
use lib.Seq.{length-take-le}
use Prim.Native.Nat.{◌/◌, ◌≤◌}
use Rattle.job.specs.Rows.{row, joined, rows}
use Rattle.job.proofs.Threes.{vertex_at}
use Rattle.text.proofs.Writing.{then, named_piece, no_piece}
use Rattle.job.proofs.row.put_rows.Goals as goal

pub loop-k-init : goal.loop-k-init
unfolding rows joined
loop-k-init c = no_piece _ _

pub loop-k-preserved : goal.loop-k-preserved
unfolding rows joined
loop-k-preserved c =
    let l = c.loop-k in
    let list = c.args.list.now in
    let n = c.args.n in
    let few : n ≤ length list / 3 = omega arith in
    let some = length-take-le n c.as_chunks.result.0.now (omega (arith, few, c.as_chunks.ensures.front_len)) in
    let v = vertex_at list n (length list / 3) l.k (omega (arith, some)) (omega (arith, some, few)) in
    named_piece (ap (rows list) (sym (add-one l.k))) (then l.invariant (named_piece (rw c.as_chunks.ensures.front (ap (row l.k) v)) c.put_row-e.ensures))
