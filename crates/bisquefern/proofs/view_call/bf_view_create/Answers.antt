-- A vertex of another length is refused; else the reply is that of the call behind it.
use mathlib.Core.Path.{◌∙◌}
use native.Mathlib.Omega.{arith}
use lib.ListN.{length}
use borrow.Author.Tests.{ne_eqb, eq-eqb}
use Rattle.bisquefern.specs.Calls.{of_vertex}
use Rattle.lent.proofs.Laws.{refuses, replies}
use Rattle.bisquefern.proofs.Placed.{create_answered}
use Rattle.bisquefern.proofs.view_call.bf_view_create.Goals as goal

pub returns-in_default : goal.returns-in_default
unfolding of_vertex
returns-in_default c = refuses (simp (ne_eqb (length c.args.vertex.now) 3 (omega arith)))

pub returns-in_default-2 : goal.returns-in_default-2
unfolding of_vertex
returns-in_default-2 c = refuses (simp (ne_eqb (length c.args.vertex.now) 3 (omega arith)))

pub returns : goal.returns
unfolding of_vertex
returns c =
    replies (c.create.ensures ∙ simp (eq-eqb (length c.args.vertex.now) 3 (omega arith))) (create_answered _ _ _ _ _ _ _ _ c.create.ensures c.give.ensures)
