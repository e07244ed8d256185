-- The goal of `none_above_its_limit`, answered by its lemma.
use Rattle.bw_questions.proofs.Rounds.{none_above}
use Rattle.bw_questions.proofs.held.laws.none_above_its_limit.Goals as goal

pub returns : goal.returns
returns c = none_above
