-- The goals of `weights_grow` that are answered by hand.
use Rattle.bw_owned.proofs.WeightLaws.{grow, one_weight}
use Rattle.bw_owned.proofs.laws.weights_grow.Goals as goal

pub returns : goal.returns
returns c = record { grow = grow; one = one_weight }
