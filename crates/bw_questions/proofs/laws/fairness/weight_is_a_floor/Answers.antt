-- The goal of `weight_is_a_floor`, answered by its lemma.
use Rattle.bw_questions.proofs.changes.Shares.{floor_holds}
use Rattle.bw_questions.proofs.laws.fairness.weight_is_a_floor.Goals as goal

pub returns : goal.returns
returns c = floor_holds
