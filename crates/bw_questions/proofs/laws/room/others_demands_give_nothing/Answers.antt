-- The goal of `others_demands_give_nothing`, answered by its lemma.
use Rattle.bw_questions.proofs.changes.BusyLaw.{others_demands_give}
use Rattle.bw_questions.proofs.laws.room.others_demands_give_nothing.Goals as goal

pub returns : goal.returns
returns c = others_demands_give
