-- The goals of `weights_give_limits` that are answered by hand.
use Rattle.bw_laws.proofs.WeightLemmas.{weights}
use Rattle.bw_laws.proofs.weights.weights_give_limits.Goals as goal

pub returns : goal.returns
returns c = weights
