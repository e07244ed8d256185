-- The numbers of the groups of a tree that has one row more.
use Rattle.std.specs.Prelude.{ℕ, ◌+◌, List, map, nat_lt, if◌then◌else◌}
use Rattle.std.specs.Option.{option_map}
use Rattle.bw_model.specs.declared.row.Row.{Row}

-- The number of a group once a new row stands at a place: one more from the place on.
unfoldable pub later : ℕ → ℕ → ℕ
later place g = if nat_lt g place then g else g + 1

-- a row that names its parent by the parent's new number
unfoldable pub renumbered : (ℕ → ℕ) → Row → Row
renumbered number row = record {
  parent = option_map number row.parent;
  weight = row.weight;
  limit = row.limit;
  demand = row.demand;
}

-- the rows that name their parents by the numbers after a new row at a place
unfoldable pub all_renumbered : ℕ → List Row → List Row
all_renumbered place rows = map (renumbered (later place)) rows
