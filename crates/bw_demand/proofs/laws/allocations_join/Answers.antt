-- The goals of `allocations_join` that are answered by hand.
use Rattle.bw_demand.proofs.Joining.{parts-IsJoined}
use Rattle.bw_demand.proofs.laws.allocations_join.Goals as goal

pub returns : goal.returns
returns c = parts-IsJoined
