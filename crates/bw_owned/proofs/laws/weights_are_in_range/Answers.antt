-- The goals of `weights_are_in_range` that are answered by hand.
use Rattle.bw_owned.proofs.WeightLaws.{in_range}
use Rattle.bw_owned.proofs.laws.weights_are_in_range.Goals as goal

pub returns : goal.returns
returns c = in_range
