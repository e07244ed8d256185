-- What stands at each turn of the loop in `Columns::rows`.
use Rattle.std.proofs.Common.{◌≡◌, map}
use Rattle.std.specs.List.{range_with_len}
use Rattle.bw_columns.specs.Asked.{row_in, table_of}
use Rattle.bw_columns.proofs.columns.Columns.rows.Given as goal

abbrev pub invariant-loop-g : goal.invariant-loop-g
invariant-loop-g l = l.rows.items ≡ map (row_in (table_of l.self)) (range_with_len 0 l.g)
