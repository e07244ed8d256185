-- The goals of `bounds_hold` that are answered by hand.
use Rattle.bw_model.proofs.CallerLemmas.{total-le_bound}
use Rattle.bw_demand.proofs.laws.bounds_hold.Goals as goal

pub returns : goal.returns
returns c = λ groups certificate bounds allocation valid are within.
    total-le_bound groups certificate bounds allocation valid.tree are within
