-- The guards are the definition's tests, in its order; past them the counts are judged.
use Rattle.real.proofs.Pick.{picks, passed}
use Rattle.view.specs.Validation.{validate_by}
use Rattle.view.proofs.Checks.{few_of_whole}
use Rattle.view.proofs.view_data.PlineViewData.validate_for_source.Goals as goal

pub judge_counts-requires : goal.judge_counts-requires
judge_counts-requires c =
    few_of_whole c.args.source.now (passed c.outline_is_whole.ensures c.if-not-outline_is_whole.false)

pub returns-then-not-outline_is_whole : goal.returns-then-not-outline_is_whole
unfolding validate_by
returns-then-not-outline_is_whole c = search picks

pub returns-then-not-numbers_in_range : goal.returns-then-not-numbers_in_range
unfolding validate_by
returns-then-not-numbers_in_range c = search picks

pub returns-then-not-limit_in_range : goal.returns-then-not-limit_in_range
unfolding validate_by
returns-then-not-limit_in_range c = search picks depth 8

pub returns : goal.returns
unfolding validate_by
returns c = search picks depth 8
