-- The goal of `limits_are_one`, answered by its lemma.
use Rattle.bw_questions.proofs.InTurn.{limits_one}
use Rattle.bw_questions.proofs.other_limits.laws.limits_are_one.Goals as goal

pub returns : goal.returns
returns c = limits_one
