-- The goal of `blamed_has_its_limit`, answered by its lemma.
use Rattle.bw_questions.proofs.Blame.{limit_is_blamed}
use Rattle.bw_questions.proofs.why.laws.blamed_has_its_limit.Goals as goal

pub returns : goal.returns
returns c = limit_is_blamed
