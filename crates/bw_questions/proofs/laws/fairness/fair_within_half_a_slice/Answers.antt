-- The goal of `fair_within_half_a_slice`, answered by its lemma.
use Rattle.bw_questions.proofs.changes.Shares.{fair}
use Rattle.bw_questions.proofs.laws.fairness.fair_within_half_a_slice.Goals as goal

pub returns : goal.returns
returns c = fair
