-- The goal of `calm_holds_nobody`, answered by its lemma.
use Rattle.bw_questions.proofs.Rounds.{nobody_held}
use Rattle.bw_questions.proofs.held.laws.calm_holds_nobody.Goals as goal

pub returns : goal.returns
returns c = nobody_held
