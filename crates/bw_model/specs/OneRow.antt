-- Groups of which one has another value.
use Rattle.std.specs.Prelude.{ℕ, Option, slice_set}
use Rattle.bw_model.specs.Groups.{Groups, row_of}

-- the groups, one with another demand
abbrev pub with_demand : Groups → ℕ → ℕ → Groups
with_demand groups g demand =
    record {
      shape = groups.shape;
      rows = slice_set groups.rows g (record (row_of groups.rows g) { demand = demand });
    }

-- the groups, one with another limit
abbrev pub with_limit : Groups → ℕ → Option ℕ → Groups
with_limit groups g limit =
    record {
      shape = groups.shape;
      rows = slice_set groups.rows g (record (row_of groups.rows g) { limit = limit });
    }

-- the groups, one with another weight and another limit
abbrev pub with_row : Groups → ℕ → ℕ → Option ℕ → Groups
with_row groups g weight limit =
    record {
      shape = groups.shape;
      rows = slice_set groups.rows g
          (record (row_of groups.rows g) { weight = weight; limit = limit });
    }
