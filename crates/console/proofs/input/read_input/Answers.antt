-- What the reader gave lies in the buffer, one read after the other.
use Rattle.std.proofs.Common.{rules, ℕ, ◌≤◌, ◌≡◌, ◌+◌, ◌-◌, length, take, List, ◌++◌, Option, Some, None, ap, sym, ◌∙◌, append_assoc}
use Rattle.std.proofs.lemmas.List.{take-append-le, length-take-le}
use Rattle.std.proofs.Math.Seq.{take-append-add}
use Rattle.std.specs.Io.KnownBytes.{Consumes}
use borrow.Rule.Slice.PartMut.{put_mid, post_of}
use Rattle.console.proofs.input.read_input.Goals as goal

-- one run of bytes and the next
and_on : (a b c : Option (List ℕ)) (xs ys : List ℕ) → Consumes a b xs → Consumes b c ys → Consumes a c (xs ++ ys)
and_on None b c xs ys p q = tt
and_on (Some a) None c xs ys p q = absurd p
and_on (Some a) (Some b) None xs ys p q = absurd q
and_on (Some a) (Some b) (Some c) xs ys p q = p ∙ ap (λ (l : List ℕ). xs ++ l) q ∙ sym (append_assoc xs ys c)

-- n bytes written on after the first d
put_on : (d n k : ℕ) (xs ys : List ℕ) → d ≤ length xs → n ≤ length ys → take (d + n) (put_mid d k xs ys) ≡ take d xs ++ take n ys
put_on d n k xs ys h l =
    ap (λ (m : ℕ). take (m + n) (put_mid d k xs ys)) (sym (length-take-le d xs h))
    ∙ take-append-add (take d xs) (ys ++ post_of d k xs) n
    ∙ ap (λ (l : List ℕ). take d xs ++ l) (take-append-le n ys (post_of d k xs) l)

pub loop-done-preserved : goal.loop-done-preserved
loop-done-preserved g c =
    let l = c.loop-done in
    let i = l.invariant in
    let d = l.done in
    let n = c.in_ok-n in
    record {
      within = search rules;
      bytes = rw (put_on d n.n (length l.buf - d) l.buf c.read.new.buf i.within n.ensures.bound.0) (and_on (g.R.Read.remaining c.args.reader.now) (g.R.Read.remaining l.reader) (g.R.Read.remaining c.read.new.self) _ _ i.bytes n.ensures.bytes.0);
    }
