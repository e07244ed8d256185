-- What stands at each turn of the loop in `rows_asking`.
use Rattle.std.proofs.Common.{◌≡◌, map}
use Rattle.std.specs.List.{range_with_len}
use Rattle.bw_columns.specs.Periods.{row_asking}
use Rattle.bw_columns.proofs.periods.rows_asking.Given as goal

abbrev pub invariant-loop-g : goal.invariant-loop-g
invariant-loop-g l =
    l.asking.items ≡ map (row_asking l.rows l.demands) (range_with_len 0 l.g)
