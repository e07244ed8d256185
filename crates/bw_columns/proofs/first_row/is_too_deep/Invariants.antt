-- What stands at each turn of the loop in `is_too_deep`.
use Rattle.std.proofs.Common.{◌≡◌, ◌+◌, ◌<◌, length}
use Rattle.bw_model.specs.Groups.{depth_of}
use Rattle.bw_columns.specs.Asked.{table_of, rows_in}
use Rattle.bw_columns.proofs.first_row.is_too_deep.Given as goal

abbrev pub invariant-loop-step : goal.invariant-loop-step
invariant-loop-step l = record {
  within : l.at < length l.columns.parents.now;
  depth : depth_of (rows_in (table_of l.columns)) l.g
      ≡ depth_of (rows_in (table_of l.columns)) l.at + l.step;
}
