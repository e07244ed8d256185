-- The goal of `asked_is_admitted_as_planned`, answered by its lemma.
use Rattle.bw_questions.proofs.Rounds.{admitted_as_planned}
use Rattle.bw_questions.proofs.held.laws.asked_is_admitted_as_planned.Goals as goal

pub returns : goal.returns
returns c = admitted_as_planned
