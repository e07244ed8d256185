-- The goals of `period_rows` that are answered by hand.
use Rattle.std.proofs.Common.{rules}
use Rattle.bw_columns.specs.Periods.{period_row}
use Rattle.bw_columns.proofs.Turns.{map_more}
use Rattle.bw_columns.proofs.one_period.period_rows.Goals as goal

pub loop-g-preserved : goal.loop-g-preserved
loop-g-preserved c =
    search (
      map_more (period_row c.args.asked.now c.args.mosts.now c.args.carries.now) c.loop-g.g,
      rules,
    )
