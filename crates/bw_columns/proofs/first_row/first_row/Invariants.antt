-- What stands at each turn of the loop in `first_row`.
use Rattle.std.proofs.Common.{◌≡◌, ℕ, ◌<◌, false}
use Rattle.bw_columns.specs.Asked.{table_of, rows_in}
use Rattle.bw_columns.specs.RefusedRow.{has_fault}
use Rattle.bw_columns.proofs.first_row.first_row.Given as goal

abbrev pub invariant-loop-g : goal.invariant-loop-g
invariant-loop-g l = (k : ℕ) → k < l.g
    → has_fault (rows_in (table_of l.columns)) l.fault k ≡ false
