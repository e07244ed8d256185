-- The goals of `rows_asking` that are answered by hand.
use Rattle.std.proofs.Common.{rules}
use Rattle.bw_columns.specs.Periods.{row_asking}
use Rattle.bw_columns.proofs.Turns.{map_more}
use Rattle.bw_columns.proofs.periods.rows_asking.Goals as goal

pub loop-g-preserved : goal.loop-g-preserved
loop-g-preserved c =
    search (map_more (row_asking c.args.rows.now c.args.demands.now) c.loop-g.g, rules)
