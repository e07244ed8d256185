-- The goal of `lesser_is_admitted`, answered by its lemma.
use Rattle.bw_questions.proofs.RoundFloors.{lesser_admitted}
use Rattle.bw_questions.proofs.held.laws.lesser_is_admitted.Goals as goal

pub returns : goal.returns
returns c = lesser_admitted c.there_is_one_plan.ensures
