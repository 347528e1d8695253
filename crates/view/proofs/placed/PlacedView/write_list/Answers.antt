-- The loop's invariant: the first k vertices stand in the buffer, and then what it held.
use mathlib.Core.Path.{◌≡◌, refl, sym, ap, ◌∙◌}
use native.Mathlib.Omega.{arith}
use native.Mathlib.Numerals.{add-one}
use Rattle.lists.specs.Plain.{tab, flat}
use Rattle.lists.specs.View.{view_list}
use Rattle.view.specs.Record.{vertices}
use Rattle.view.specs.Answers.{written}
use Rattle.lists.proofs.Tab.{flat_put}
use Rattle.view.proofs.placed.PlacedView.write_list.Goals as goal
use Rattle.view.proofs.placed.PlacedView.write_list.Invariants.{vertex, after}

pub loop-k-init : goal.loop-k-init
unfolding flat tab
loop-k-init c = (refl, refl)

pub loop-k-preserved : goal.loop-k-preserved
loop-k-preserved c =
    let a = c.args in
    let k = c.loop-k.k in
    let put = c.put in (
      put.auto.out ∙ c.loop-k.invariant.0,
      simp (c.loop-k.invariant.1, c.vertex.ensures) at put.ensures
          ∙ flat_put (vertex a.self.outline.numbers.now a.self.view) k a.out.now (omega arith)
          ∙ ap (after a.self.outline.numbers.now a.self.view a.out.now) (sym (add-one k)),
    )

pub returns : goal.returns
unfolding written view_list
returns c =
    let a = c.args in
    let e : c.loop-k.k ≡ vertices a.self.view = omega arith in
    c.loop-k.invariant.1 ∙ ap (after a.self.outline.numbers.now a.self.view a.out.now) e

pub shape_of-out : goal.shape_of-out
shape_of-out c = c.loop-k.invariant.0
