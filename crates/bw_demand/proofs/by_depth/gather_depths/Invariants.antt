-- What stands at each turn of the loops in `gather_depths`.
use Rattle.std.proofs.Common.{◌≡◌}
use Rattle.bw_demand.specs.ByDepth.{rows_of_depth}
use Rattle.bw_demand.proofs.WantsGathered.{IsGathering}
use Rattle.bw_demand.proofs.Seen.{seen_from, seen_at}
use Rattle.bw_demand.proofs.by_depth.gather_depths.Given as goal

abbrev pub invariant-loop-depth : goal.invariant-loop-depth
invariant-loop-depth l = IsGathering l.instance (seen_from l.instance.rows l.depth)
    l.gathered.want.items l.gathered.most.items l.gathered.tight.items

abbrev pub invariant-loop-k : goal.invariant-loop-k
invariant-loop-k l = record {
  groups : l.groups ≡ rows_of_depth l.instance.rows l.depth;
  gathering : IsGathering l.instance (seen_at l.instance.rows l.depth l.k) l.gathered.want.items
      l.gathered.most.items l.gathered.tight.items;
}
