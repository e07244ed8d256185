-- The goal of `limit_only_cuts`, answered by its lemma.
use Rattle.bw_questions.proofs.changes.CutLaw.{limit_cuts}
use Rattle.bw_questions.proofs.laws.cut.limit_only_cuts.Goals as goal

pub returns : goal.returns
returns c = limit_cuts
