-- The goal of `raised_weight_alone_gains`, answered by its lemma.
use Rattle.bw_questions.proofs.changes.WeightLaw.{heavier_alone_gains}
use Rattle.bw_questions.proofs.laws.weight.raised_weight_alone_gains.Goals as goal

pub returns : goal.returns
returns c = heavier_alone_gains
