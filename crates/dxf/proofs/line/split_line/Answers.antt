-- The line ends before its LF, or at the text's end.
use mathlib.Core.Path.{sym, ap, ap₂, ◌∙◌}
use mathlib.Core.List.{List, [], ◌∷◌}
use Prim.Native.Nat.{ℕ, ◌+◌}
use native.Mathlib.Omega.{arith}
use lib.ListN.{length-drop, length-take}
use Rattle.numeral.proofs.Text.{to_end, first_at}
use Rattle.dxf.specs.Line.{skip_spaces, lines_of}
use Rattle.dxf.proofs.Lines.{line_lf, line_last}
use Rattle.dxf.proofs.line.split_line.Goals as goal

pub returns-in-Some : goal.returns-in-Some
returns-in-Some c =
    let t = c.args.text.now in
    let e = c.in-Some.end in (
      line_lf t e c.in-Some.ensures ∙ ap₂ (λ (l : List ℕ) (r : List ℕ). l ∷ lines_of r) (sym (c.skip_spaces.ensures ∙ ap skip_spaces c.without_cr.ensures)) (sym (to_end t (e + 1))),
      simp (length-take, length-drop) (omega (arith, (first_at _ t e c.in-Some.ensures).1)),
    )

pub returns-in-None : goal.returns-in-None
returns-in-None c =
    let t = c.args.text.now in (
      line_last t (grind arith) c.in-None.ensures ∙ ap (λ (l : List ℕ). l ∷ lines_of []) (sym c.skip_spaces-in-None.ensures),
      grind arith,
    )
