-- The goals of `amounts_are_reached` that are answered by hand.
use Rattle.bw_demand.proofs.Joining.{amount-IsReached}
use Rattle.bw_demand.proofs.laws.amounts_are_reached.Goals as goal

pub returns : goal.returns
returns c = amount-IsReached
