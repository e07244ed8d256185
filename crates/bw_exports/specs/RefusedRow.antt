-- The number that refuses the rows of columns.
use Rattle.std.specs.Prelude.{ℕ, if◌then◌else◌}
use Rattle.std.specs.Option.{option_map_or}
use Rattle.bw_model.specs.Refusal.{refusal}
use Rattle.bw_model.specs.Faults.{instance_fault_number}
use Rattle.bw_columns.specs.Asked.{Table, rows_in, are_even}

-- the number that refuses the rows of columns, 0 where none does: 50 where the columns are of
-- several lengths
unfoldable pub rows_number : Table → ℕ
rows_number table =
    if are_even table then option_map_or instance_fault_number (refusal (rows_in table)) 0 else 50
