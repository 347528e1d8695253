-- The fuzzy test is the definition's, on the vertex by its promise.
use Rattle.view.specs.Create.{ending_of}
use Rattle.view.proofs.create.find_end.Goals as goal

pub returns-then-fuzzy_eq_eps : goal.returns-then-fuzzy_eq_eps
unfolding ending_of
returns-then-fuzzy_eq_eps c =
    let near = simp (c.pos.ensures, c.vertex-v.ensures, c.fuzzy_eq_eps.ensures) at c.if-fuzzy_eq_eps.true in
    simp (near, c.end_on_top.ensures)

pub returns : goal.returns
unfolding ending_of
returns c =
    let apart = simp (c.pos.ensures, c.vertex-v.ensures, c.fuzzy_eq_eps.ensures) at c.if-fuzzy_eq_eps.false in
    simp (apart, c.end_on_segment.ensures)
