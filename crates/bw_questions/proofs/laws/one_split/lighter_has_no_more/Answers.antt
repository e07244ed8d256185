-- The goal of `lighter_has_no_more`, answered by its lemma.
use Rattle.bw_questions.proofs.changes.Raised.{lighter_no_more}
use Rattle.bw_questions.proofs.laws.one_split.lighter_has_no_more.Goals as goal

pub returns : goal.returns
returns c = lighter_no_more
