-- The goal of `demand_only_cuts`, answered by its lemma.
use Rattle.bw_questions.proofs.changes.AskedLaw.{only_cuts}
use Rattle.bw_questions.proofs.laws.asked.demand_only_cuts.Goals as goal

pub returns : goal.returns
returns c = only_cuts
