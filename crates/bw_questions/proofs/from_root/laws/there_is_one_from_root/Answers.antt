-- The goal of `there_is_one_from_root`, answered by its lemma.
use Rattle.bw_questions.proofs.OneTuned.{one_tuned}
use Rattle.bw_questions.proofs.from_root.laws.there_is_one_from_root.Goals as goal

pub returns : goal.returns
returns c = one_tuned
