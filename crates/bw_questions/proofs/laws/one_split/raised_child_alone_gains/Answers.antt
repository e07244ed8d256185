-- The goal of `raised_child_alone_gains`, answered by its lemma.
use Rattle.bw_questions.proofs.changes.Raised.{raised_alone_gains}
use Rattle.bw_questions.proofs.laws.one_split.raised_child_alone_gains.Goals as goal

pub returns : goal.returns
returns c = raised_alone_gains
