-- The goal of `unused_demand_changes_nothing`, answered by its lemma.
use Rattle.bw_questions.proofs.changes.AskedLaw.{unused_changes}
use Rattle.bw_questions.proofs.laws.asked.unused_demand_changes_nothing.Goals as goal

pub returns : goal.returns
returns c = unused_changes
