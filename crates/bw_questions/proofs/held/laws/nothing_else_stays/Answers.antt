-- The goal of `nothing_else_stays`, answered by its lemma.
use Rattle.bw_questions.proofs.Runs.{nothing_else_stays}
use Rattle.bw_questions.proofs.held.laws.nothing_else_stays.Goals as goal

pub returns : goal.returns
returns c = nothing_else_stays
