-- What stands at each turn of the loop in `gather_rows`.
use Rattle.bw_demand.proofs.WantsGathered.{IsGathering}
use Rattle.bw_demand.proofs.Seen.{rows_from}
use Rattle.bw_demand.proofs.by_rows.gather_rows.Given as goal

abbrev pub invariant-loop-g : goal.invariant-loop-g
invariant-loop-g l = IsGathering l.instance (rows_from l.g) l.gathered.want.items
    l.gathered.most.items l.gathered.tight.items
