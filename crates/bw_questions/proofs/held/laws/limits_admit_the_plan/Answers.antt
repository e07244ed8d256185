-- The goal of `limits_admit_the_plan`, answered by its lemma.
use Rattle.bw_questions.proofs.Rounds.{admit_the_plan}
use Rattle.bw_questions.proofs.held.laws.limits_admit_the_plan.Goals as goal

pub returns : goal.returns
returns c = admit_the_plan
