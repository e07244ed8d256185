-- What stands at each turn of the loop in `limiting`.
use Rattle.bw_demand.specs.Demands.{demands_of}
use Rattle.bw_demand.proofs.LimitingListed.{IsListing}
use Rattle.bw_demand.proofs.limiting_groups.limiting.Given as goal

abbrev pub invariant-loop-g : goal.invariant-loop-g
invariant-loop-g l =
    IsListing l.instance (demands_of l.gathered) l.g l.covered.items l.groups.items l.rest
