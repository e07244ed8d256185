-- The goal of `halves_are_had`, answered by its lemma.
use Rattle.bw_questions.proofs.GoalSums.{halves_had}
use Rattle.bw_questions.proofs.from_root.laws.halves_are_had.Goals as goal

pub returns : goal.returns
returns c = halves_had
