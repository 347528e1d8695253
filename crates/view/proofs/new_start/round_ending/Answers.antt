-- The fuzzy test is the definition's, on vertex k by its promise.
use Rattle.view.specs.Create.{round_ending_of}
use Rattle.view.proofs.new_start.round_ending.Goals as goal

pub returns-then-fuzzy_eq_eps : goal.returns-then-fuzzy_eq_eps
unfolding round_ending_of
returns-then-fuzzy_eq_eps c =
    let near = simp (c.pos.ensures, c.vertex-v.ensures, c.fuzzy_eq_eps.ensures) at c.if-fuzzy_eq_eps.true in
    simp (near, c.vertex_count-count.ensures, c.vertex_past-before.ensures)

pub returns : goal.returns
unfolding round_ending_of
returns c =
    let apart = simp (c.pos.ensures, c.vertex-v.ensures, c.fuzzy_eq_eps.ensures) at c.if-fuzzy_eq_eps.false in
    simp (apart, c.vertex_count-count.ensures)
