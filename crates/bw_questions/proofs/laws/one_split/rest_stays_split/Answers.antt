-- The goal of `rest_stays_split`, answered by its lemma.
use Rattle.bw_questions.proofs.changes.Removed.{rest_stays}
use Rattle.bw_questions.proofs.laws.one_split.rest_stays_split.Goals as goal

pub returns : goal.returns
returns c = rest_stays
