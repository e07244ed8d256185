-- The goal of `plan_is_reached`, answered by its lemma.
use Rattle.bw_questions.proofs.Runs.{plan_is_reached}
use Rattle.bw_questions.proofs.held.laws.plan_is_reached.Goals as goal

pub returns : goal.returns
returns c = plan_is_reached c.there_is_one_plan.ensures
