-- The goals of `least_weight` that are answered by hand.
use Rattle.bw_questions.proofs.Rising.{weights_rise}
use Rattle.bw_questions.proofs.least.least_weight.Goals as goal

pub least-requires-clause-rises : goal.least-requires-clause-rises
least-requires-clause-rises c =
    weights_rise c.there_is_one_plan.ensures c.raised_limits_serve_no_less.ensures
    c.raised_weight_alone_gains.ensures c.args.instance.now c.rows-rows.ensures.valid c.args.group
    c.args.amount c.requires
