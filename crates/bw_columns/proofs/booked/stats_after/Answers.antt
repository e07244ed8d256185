-- The goals of `stats_after` that are answered by hand.
use Rattle.std.proofs.Common.{rules}
use Rattle.bw_columns.specs.Booked.{stat_after, counters_of}
use Rattle.bw_columns.proofs.Turns.{map_more}
use Rattle.bw_columns.proofs.booked.stats_after.Goals as goal

pub loop-g-preserved : goal.loop-g-preserved
loop-g-preserved c =
    search (
      map_more (stat_after c.args.instance.now c.args.wants.now c.args.quotas.now c.args.drawn.now
          (counters_of c.args.counters.now)) c.loop-g.g,
      rules,
    )
