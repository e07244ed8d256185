-- The goal of `unmet_demand_changes_nothing`, answered by its lemma.
use Rattle.bw_questions.proofs.changes.AskedLaw.{unmet_changes}
use Rattle.bw_questions.proofs.laws.asked.unmet_demand_changes_nothing.Goals as goal

pub returns : goal.returns
returns c = unmet_changes
