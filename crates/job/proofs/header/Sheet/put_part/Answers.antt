-- The number of the part picks it.
use mathlib.Core.Path.{◌≡◌, sym, ap, ◌∙◌}
use Prim.Native.Nat.{◌+◌, ◌<◌}
use native.Mathlib.Omega.{arith}
use Rattle.job.specs.declared.header.Header.{Header}
use Rattle.job.specs.Header.{closed}
use Rattle.job.specs.Lines.{outline_line}
use Rattle.job.specs.Sheet.{views}
use Rattle.job.specs.Parts.{front_part}
use Rattle.job.proofs.Lengths.{outline_length}
use Rattle.job.proofs.Parting.{named_part, empty_part, past_part, front_part_law, view_part_law}
use Rattle.job.proofs.header.Sheet.put_part.Goals as goal

pub returns-then-k-self : goal.returns-then-k-self
returns-then-k-self c =
    let a = c.args in
    let s = a.self.now in
    let n : s.header.views ≡ views s.bytes.now = ap (λ (h : Header). h.views) s.is in
    let p = past_part s.bytes.now a.outline.now a.list.now a.k s.good (omega arith) in
    record { text = named_part p.0 (empty_part _); list = p.1 }

pub returns-in-0 : goal.returns-in-0
unfolding front_part
returns-in-0 c =
    let a = c.args in
    let s = a.self.now in
    let h = s.header in
    let p = front_part_law s.bytes.now a.outline.now a.list.now a.k s.good (omega arith) in
    let line = ap (outline_line h.vertices h.views) c.is_closed.ensures ∙ ap (λ (h : Header). outline_line h.vertices h.views (closed h)) s.is in
    let short = outline_length h.vertices h.views c.is_closed.result (omega (arith, s.vertices)) (omega (arith, s.views)) in
    record { text = named_part (line ∙ ap (front_part s.bytes.now) (sym c.in-0.is) ∙ p.0) (record { piece = c.put_outline.ensures; short = omega arith }); list = p.1 }

pub returns-in-1 : goal.returns-in-1
unfolding front_part
returns-in-1 c =
    let a = c.args in
    let s = a.self.now in
    let p = front_part_law s.bytes.now a.outline.now a.list.now a.k s.good (omega arith) in
    record { text = named_part (ap (front_part s.bytes.now) (sym c.in-1.is) ∙ p.0) c.put_extent.ensures; list = p.1 }

pub returns-in_default : goal.returns-in_default
returns-in_default c =
    let a = c.args in
    let s = a.self.now in
    let n : s.header.views ≡ views s.bytes.now = ap (λ (h : Header). h.views) s.is in
    let k : a.k < views s.bytes.now + 2 = omega (arith, c.if-k-self.false) in
    let p = view_part_law s.bytes.now a.outline.now a.list.now a.k s.good (omega arith) k in
    record { text = named_part p.0 c.put_view.ensures.text; list = c.put_view.ensures.list ∙ p.1 }
