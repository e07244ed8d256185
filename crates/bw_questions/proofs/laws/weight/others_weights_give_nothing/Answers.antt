-- The goal of `others_weights_give_nothing`, answered by its lemma.
use Rattle.bw_questions.proofs.changes.BesideLaw.{others_weights_give}
use Rattle.bw_questions.proofs.laws.weight.others_weights_give_nothing.Goals as goal

pub returns : goal.returns
returns c = others_weights_give
