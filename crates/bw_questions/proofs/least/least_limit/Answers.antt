-- The goals of `least_limit` that are answered by hand.
use Rattle.std.proofs.Common.{sym, ◌∙◌, true≢false}
use Rattle.bw_questions.proofs.Limits.{amount_is_least, none_is_least}
use Rattle.bw_questions.proofs.least.least_limit.Goals as goal

pub returns-then-enough-clause-least : goal.returns-then-enough-clause-least
returns-then-enough-clause-least c =
    amount_is_least c.there_is_one_plan.ensures c.limit_only_cuts.ensures c.args.instance.now
    c.rows-rows.ensures.valid c.args.group c.args.amount c.requires.row c.requires.below_root
    (c.in_ok-enough.ensures.reached.0 c.if-enough.true)

pub returns-else-enough-clause-least : goal.returns-else-enough-clause-least
returns-else-enough-clause-least c =
    none_is_least c.there_is_one_plan.ensures c.limit_only_cuts.ensures c.args.instance.now
    c.rows-rows.ensures.valid c.args.group c.args.amount c.requires.row c.requires.below_root
    (λ reached. true≢false (sym (c.in_ok-enough.ensures.reached.1 reached) ∙ c.if-enough.false))
