-- The rows of an instance in which all leaves that are not under a group ask for the most.
use Rattle.std.specs.Prelude.{ℕ, List, Bool, false, ◌&&◌, not, Option, None, Some}
use Rattle.std.specs.Prelude.{length, map, slice_index_or, if◌then◌else◌}
use Rattle.std.specs.List.{range_with_len}
use Rattle.bw_model.specs.declared.row.Row.{Row}
use Rattle.bw_model.specs.declared.limits.TheConstants.{MAX_DEMAND}
use Rattle.bw_model.specs.Groups.{row_of, weight_of, demand_of, parent_of, is_leaf, is_under}

-- the flag of a row's parent, and false where there is none
abbrev pub flag_of : List Bool → Option ℕ → Bool
flag_of flags None = false
flag_of flags (Some parent) = slice_index_or flags parent false

-- for each row, whether it is a group or below it
abbrev pub under_flags : List Row → ℕ → List Bool
under_flags rows group = map (is_under rows group) (range_with_len 0 (length rows))

-- the row of a group, which asks for the most where it is a leaf and not kept
abbrev pub busy_row : List Row → ℕ → Bool → Row
busy_row rows g kept = record {
  parent = parent_of rows g;
  weight = weight_of rows g;
  limit = (row_of rows g).limit;
  demand = if is_leaf rows g && not kept then MAX_DEMAND else demand_of rows g;
}

-- the rows, of which those under a group are kept
abbrev pub busy_rows : List Row → ℕ → List Row
busy_rows rows group =
    map (λ g. busy_row rows g (is_under rows group g)) (range_with_len 0 (length rows))
