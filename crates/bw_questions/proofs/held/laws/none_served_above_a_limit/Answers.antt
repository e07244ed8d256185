-- The goal of `none_served_above_a_limit`, answered by its lemma.
use Rattle.bw_questions.proofs.ServedRounds.{none_served_above}
use Rattle.bw_questions.proofs.held.laws.none_served_above_a_limit.Goals as goal

pub returns : goal.returns
returns c = none_served_above
