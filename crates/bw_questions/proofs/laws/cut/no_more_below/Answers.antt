-- The goal of `no_more_below`, answered by its lemma.
use Rattle.bw_questions.proofs.changes.Lacking.{none_below}
use Rattle.bw_questions.proofs.laws.cut.no_more_below.Goals as goal

pub returns : goal.returns
returns c = none_below
