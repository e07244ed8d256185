-- The goal of `plan_stays`, answered by its lemma.
use Rattle.bw_questions.proofs.Runs.{plan_stays}
use Rattle.bw_questions.proofs.held.laws.plan_stays.Goals as goal

pub returns : goal.returns
returns c = plan_stays
