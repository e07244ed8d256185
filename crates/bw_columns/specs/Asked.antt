-- A caller's request, in columns of numbers, and the number that answers it.
use Rattle.std.specs.Prelude.{◌≡◌, ◌≢◌, ◌<◌, ◌⊎◌, ℕ, Bool, true, ◌==◌, ◌&&◌, List, [], ◌∷◌}
use Rattle.std.specs.Prelude.{Option, Some, None, length, map, slice_index, if◌then◌else◌}
use Rattle.std.specs.List.{range_with_len}
use Rattle.std.specs.Option.{option_map_or}
use Rattle.bw_model.specs.declared.row.Row.{Row}
use Rattle.bw_model.specs.Host.{Shape, host_refusal}
use Rattle.bw_model.specs.Refusal.{refusal}
use Rattle.bw_model.specs.Faults.{host_fault_number, instance_fault_number}
use Rattle.bw_model.specs.Groups.{Groups}
use Rattle.bw_columns.specs.declared.columns.TheConstants.{NO_PARENT, NO_LIMIT}
use Rattle.bw_columns.specs.declared.columns.Columns.{Columns}
use Rattle.bw_columns.specs.declared.asked_instance.Host.{Host}

-- the columns of the rows
pub record Table : Type 0 where
  pub parents : List ℕ
  pub weights : List ℕ
  pub limits : List ℕ
  pub demands : List ℕ

-- the host of three numbers
abbrev pub asked_host : ℕ → ℕ → ℕ → Shape
asked_host processors period_us slice_us =
    record { processors = processors; period_us = period_us; slice_us = slice_us }

-- the table of four columns
abbrev pub asked_table : List ℕ → List ℕ → List ℕ → List ℕ → Table
asked_table parents weights limits demands =
    record { parents = parents; weights = weights; limits = limits; demands = demands }

-- the program's columns, as lists
abbrev pub table_of : Columns → Table
table_of columns =
    asked_table columns.parents.now columns.weights.now columns.limits.now columns.demands.now

-- the program's host, as its value
abbrev pub shape_of : Host → Shape
shape_of host = asked_host host.processors host.period_us host.slice_us

-- the parent that a number names: the greatest number of 32 bits names none
abbrev pub parent_in : ℕ → Option ℕ
parent_in number = if number == NO_PARENT then None else Some number

-- the limit that a number gives: the greatest number of 64 bits gives none
abbrev pub limit_in : ℕ → Option ℕ
limit_in number = if number == NO_LIMIT then None else Some number

-- the number of a limit: the greatest of 64 bits where there is none
abbrev pub limit_number : Option ℕ → ℕ
limit_number None = NO_LIMIT
limit_number (Some limit) = limit

-- row g of the columns
abbrev pub row_in : Table → ℕ → Row
row_in table g =
    record {
      parent = parent_in (slice_index table.parents g);
      weight = slice_index table.weights g;
      limit = limit_in (slice_index table.limits g);
      demand = slice_index table.demands g;
    }

-- the rows of the columns
abbrev pub rows_in : Table → List Row
rows_in table = map (row_in table) (range_with_len 0 (length table.parents))

-- a host and the rows of the columns
abbrev pub groups_in : Shape → Table → Groups
groups_in shape table = record { shape = shape; rows = rows_in table }

-- whether each list has so many entries
abbrev pub are_of_length : ℕ → List (List ℕ) → Bool
are_of_length count [] = true
are_of_length count (column ∷ columns) = (length column == count) && are_of_length count columns

-- whether the columns are of one length
abbrev pub are_even : Table → Bool
are_even table =
    are_of_length (length table.parents) (table.weights ∷ table.limits ∷ table.demands ∷ [])

-- the number of the first refusal of a host and its rows, 0 where there is none
abbrev pub refusal_number : Groups → ℕ
refusal_number groups =
    option_map_or host_fault_number (host_refusal groups.shape)
    (option_map_or instance_fault_number (refusal groups.rows) 0)

-- the number that refuses what is asked, 0 where none does: 50 where the columns are of several
-- lengths
unfoldable pub asked_number : Shape → Table → ℕ
asked_number shape table = if are_even table then refusal_number (groups_in shape table) else 50

-- the groups that the program's host and columns stand for
abbrev pub groups_asked : Host → Columns → Groups
groups_asked host columns = groups_in (shape_of host) (table_of columns)

-- the number that refuses the program's host and columns, 0 where none does
abbrev pub refusal_of : Host → Columns → ℕ
refusal_of host columns = asked_number (shape_of host) (table_of columns)

-- A refusal that was found after memory was asked for: none, or a number above 3 other than 50.
abbrev pub IsAfterMemory : ℕ → Type 0
IsAfterMemory refused = (refused ≡ 0) ⊎ ((3 < refused) × (refused ≢ 50))

-- The answer of a refused call: the number of the refusal, or 71 when out of memory. So 50 and 1 to
-- 3 are exact.
abbrev pub Answers : ℕ → ℕ → Type 0
Answers refused number = (number ≡ refused) ⊎ ((number ≡ 71) × IsAfterMemory refused)

-- the number that refuses what is asked, 50 also where the columns for the answer are not of the
-- rows' length
unfoldable pub asked_number_where : Bool → Shape → Table → ℕ
asked_number_where fit shape table = if fit then asked_number shape table else 50

-- the number that refuses a request whose list for the answer has `count` entries: 50 also where
-- `count` differs from the number of rows
abbrev pub asked_number_with : ℕ → Shape → Table → ℕ
asked_number_with count shape table =
    asked_number_where (count == length table.parents) shape table

-- the number that refuses the program's host and columns, 50 also where the columns for the answer
-- are not of the rows' length
abbrev pub refusal_where : Bool → Host → Columns → ℕ
refusal_where fit host columns = asked_number_where fit (shape_of host) (table_of columns)
