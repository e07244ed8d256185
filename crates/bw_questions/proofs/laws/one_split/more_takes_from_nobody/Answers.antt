-- The goal of `more_takes_from_nobody`, answered by its lemma.
use Rattle.bw_questions.proofs.changes.Pairs.{more_from_nobody}
use Rattle.bw_questions.proofs.laws.one_split.more_takes_from_nobody.Goals as goal

pub returns : goal.returns
returns c = more_from_nobody
