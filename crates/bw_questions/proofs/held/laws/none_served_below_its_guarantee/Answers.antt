-- The goal of `none_served_below_its_guarantee`, answered by its lemma.
use Rattle.bw_questions.proofs.ServedRounds.{none_served_below}
use Rattle.bw_questions.proofs.held.laws.none_served_below_its_guarantee.Goals as goal

pub returns : goal.returns
returns c = none_served_below c.there_is_one_plan.ensures
