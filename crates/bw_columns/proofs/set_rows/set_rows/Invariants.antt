-- What stands at each turn of the loop in `set_rows`.
use Rattle.std.proofs.Common.{◌≡◌, ◌<◌, ℕ, map}
use Rattle.std.specs.List.{range_with_len}
use Rattle.bw_columns.specs.Periods.{settings_of, set_row, most_at, setting_number_at}
use Rattle.bw_columns.proofs.set_rows.set_rows.Given as goal

abbrev pub invariant-loop-g : goal.invariant-loop-g
invariant-loop-g l = record {
  rows : l.groups.rows.items ≡ map (set_row l.shape (settings_of l.settings)) (range_with_len 0 l.g);
  mosts : l.groups.mosts.items
      ≡ map (most_at l.shape (settings_of l.settings)) (range_with_len 0 l.g);
  fine : (j : ℕ) → j < l.g → setting_number_at l.shape (settings_of l.settings) j ≡ 0;
}
