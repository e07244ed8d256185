-- The goal of `guarantee_is_admitted`, answered by its lemma.
use Rattle.bw_questions.proofs.RoundFloors.{all_admitted}
use Rattle.bw_questions.proofs.held.laws.guarantee_is_admitted.Goals as goal

pub returns : goal.returns
returns c = all_admitted c.there_is_one_plan.ensures
