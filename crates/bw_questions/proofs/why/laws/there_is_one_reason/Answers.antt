-- The goal of `there_is_one_reason`, answered by its lemma.
use Rattle.bw_questions.proofs.OneReason.{one_reason}
use Rattle.bw_questions.proofs.why.laws.there_is_one_reason.Goals as goal

pub returns : goal.returns
returns c = one_reason
