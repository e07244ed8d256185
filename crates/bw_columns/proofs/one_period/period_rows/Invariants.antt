-- What stands at each turn of the loop in `period_rows`.
use Rattle.std.proofs.Common.{◌≡◌, map}
use Rattle.std.specs.List.{range_with_len}
use Rattle.bw_columns.specs.Periods.{period_row}
use Rattle.bw_columns.proofs.one_period.period_rows.Given as goal

abbrev pub invariant-loop-g : goal.invariant-loop-g
invariant-loop-g l =
    l.rows.items ≡ map (period_row l.asked l.mosts l.carries) (range_with_len 0 l.g)
