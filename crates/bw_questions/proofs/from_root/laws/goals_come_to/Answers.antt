-- The goal of `goals_come_to`, answered by its lemma.
use Rattle.bw_questions.proofs.GoalSums.{goals_come}
use Rattle.bw_questions.proofs.from_root.laws.goals_come_to.Goals as goal

pub returns : goal.returns
returns c = goals_come
