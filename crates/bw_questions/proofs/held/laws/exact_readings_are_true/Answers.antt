-- The goal of `exact_readings_are_true`, answered by its lemma.
use Rattle.bw_questions.proofs.ExactReadings.{exact_true}
use Rattle.bw_questions.proofs.held.laws.exact_readings_are_true.Goals as goal

pub returns : goal.returns
returns c = exact_true
