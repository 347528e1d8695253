-- The two numbers are tested, then the room; then the 64 bytes stand at the start.
use mathlib.Core.Path.{◌≡◌, ap, ◌∙◌}
use mathlib.Core.List.{◌++◌}
use Prim.Native.Nat.{ℕ}
use native.Mathlib.Omega.{arith}
use lib.ListN.{drop}
use borrow.Author.Tests.{lt-ltb, le-ltb, lt-leb, le-leb}
use Rattle.real.specs.Reply.{given}
use Rattle.record.specs.Record.{record_bytes, record_to, buffer_by, record_buffer}
use Rattle.record.specs.Layout.{record_size}
use Rattle.record.proofs.Records.{record_length}
use Rattle.text.proofs.Writing.{filled}
use Rattle.record.proofs.record.record_to_bytes.Goals as goal

pub returns-then-offset-ge-WORD_LIMIT : goal.returns-then-offset-ge-WORD_LIMIT
unfolding record_to record_buffer buffer_by
returns-then-offset-ge-WORD_LIMIT c = let e = le-ltb _ _ c.if-offset-ge-WORD_LIMIT.true in (simp e, simp e)

pub returns-then-start-ge-WORD_LIMIT : goal.returns-then-start-ge-WORD_LIMIT
unfolding record_to record_buffer buffer_by
returns-then-start-ge-WORD_LIMIT c =
    let e = lt-ltb _ _ c.if-offset-ge-WORD_LIMIT.false in
    let f = le-ltb _ _ c.if-start-ge-WORD_LIMIT.true in
    (simp (e, f), simp (e, f))

pub returns-then-out-lt-RECORD_BYTES : goal.returns-then-out-lt-RECORD_BYTES
unfolding record_to record_buffer buffer_by
returns-then-out-lt-RECORD_BYTES c =
    let e = lt-ltb _ _ c.if-offset-ge-WORD_LIMIT.false in
    let f = lt-ltb _ _ c.if-start-ge-WORD_LIMIT.false in
    let g = lt-leb _ _ c.if-out-lt-RECORD_BYTES.true in
    (simp (e, f, g), simp (e, f, g))

pub returns : goal.returns
unfolding record_to record_buffer buffer_by
returns c =
    let a = c.args in
    let n = record_length a.d in
    let w = c.put_record.ensures.wrote (omega arith) in
    let m = w.end in
    let q : c.put_record.result ≡ record_size = omega arith in
    let e = lt-ltb _ _ c.if-offset-ge-WORD_LIMIT.false in
    let f = lt-ltb _ _ c.if-start-ge-WORD_LIMIT.false in
    let g = le-leb _ _ c.if-out-lt-RECORD_BYTES.false in
    (simp (e, f, g) (ap given q), simp (e, f, g) ((filled w (omega arith)).holds ∙ ap (λ (n : ℕ). record_bytes a.d ++ drop n a.out.now) q))
