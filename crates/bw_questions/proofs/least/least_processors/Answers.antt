-- The goals of `least_processors` that are answered by hand.
use Rattle.bw_questions.proofs.Rising.{processors_rise}
use Rattle.bw_questions.proofs.least.least_processors.Goals as goal

pub least-requires-clause-rises : goal.least-requires-clause-rises
least-requires-clause-rises c =
    processors_rise c.there_is_one_plan.ensures c.capacity_takes_nothing.ensures
    c.args.instance.now c.rows-rows.ensures.valid c.args.group c.args.amount c.requires
