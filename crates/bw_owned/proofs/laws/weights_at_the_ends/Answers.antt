-- The goals of `weights_at_the_ends` that are answered by hand.
use Rattle.bw_owned.proofs.WeightLaws.{at_ends}
use Rattle.bw_owned.proofs.laws.weights_at_the_ends.Goals as goal

pub returns-clause-ends : goal.returns-clause-ends
returns-clause-ends c = at_ends
