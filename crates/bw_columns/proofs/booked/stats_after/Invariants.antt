-- What stands at each turn of the loop in `stats_after`.
use Rattle.std.proofs.Common.{◌≡◌, map}
use Rattle.std.specs.List.{range_with_len}
use Rattle.bw_columns.specs.Booked.{stat_after, counters_of}
use Rattle.bw_columns.proofs.booked.stats_after.Given as goal

abbrev pub invariant-loop-g : goal.invariant-loop-g
invariant-loop-g l = l.stats.items
    ≡ map (stat_after l.instance l.wants l.quotas l.drawn (counters_of l.counters))
    (range_with_len 0 l.g)
