-- The goal of `wants_give_the_plan`, answered by its lemma.
use Rattle.bw_questions.proofs.Runs.{wants_give_the_plan}
use Rattle.bw_questions.proofs.held.laws.wants_give_the_plan.Goals as goal

pub returns : goal.returns
returns c = wants_give_the_plan
