-- With no place for the count nothing is written; else the list is, and then the count.
use Rattle.std.proofs.Common.{rules}
use Rattle.lent.proofs.Listed.{listed_both, no_count}
use Rattle.lent.proofs.list.give_list.Goals as goal

pub returns-then-is_empty : goal.returns-then-is_empty
returns-then-is_empty c =
    no_count c.args.outline.now c.args.d (search rules) c.vertex_count.ensures c.give.ensures

pub returns : goal.returns
returns c =
    listed_both c.args.outline.now c.args.d (search rules) c.list.ensures.0 c.list.ensures.1 c.give-2.ensures
