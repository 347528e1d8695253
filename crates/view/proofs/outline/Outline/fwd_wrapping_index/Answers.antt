-- A sum below the count is its own remainder; any other is below twice the count, so that one count less is it.
use mathlib.Core.Path.{sym, ◌∙◌}
use native.Mathlib.Nat.{mod-eq_of_lt, mod-eq-sub-mod}
use native.Mathlib.Omega.{arith}
use Rattle.view.proofs.outline.Outline.fwd_wrapping_index.Goals as goal

pub returns-then-k-count : goal.returns-then-k-count
returns-then-k-count c =
    rw c.vertex_count-count.ensures
    (record { is = sym (mod-eq-sub-mod (omega (arith, c.vertex_count-count.ensures)) ∙ mod-eq_of_lt (omega (arith, c.vertex_count-count.ensures))); below = omega (arith, c.vertex_count-count.ensures) })

pub returns-else-k-count : goal.returns-else-k-count
returns-else-k-count c = record { is = sym (mod-eq_of_lt (omega (arith, c.vertex_count-count.ensures))); below = omega (arith, c.vertex_count-count.ensures) }
