-- Law of an outer group around a group, which is its one child.
use Rattle.std.specs.Prelude.{◌≡◌, ℕ, ◌<◌, List, None, Some, length, insert, slice_index}
use Rattle.std.specs.Prelude.{slice_set}
use Rattle.bw_model.specs.declared.row.Row.{Row}
use Rattle.bw_model.specs.Groups.{IsInstance, row_of, parent_of, weight_of, demand_of}
use Rattle.bw_model.specs.Host.{Shape}
use Rattle.bw_model.specs.Plan.{IsPlan}
use Rattle.bw_questions.specs.changes.Places.{all_renumbered}

-- an outer group in a group's place: it has the group's parent and weight, no limit and no demand
unfoldable pub outer_group : List Row → ℕ → Row
outer_group rows group = record {
  parent = parent_of rows group;
  weight = weight_of rows group;
  limit = None;
  demand = 0;
}

-- the group as the child of that outer group, with a weight that may be another one
unfoldable pub inner_group : List Row → ℕ → ℕ → Row
inner_group rows group weight = record {
  parent = Some group;
  weight = weight;
  limit = (row_of rows group).limit;
  demand = demand_of rows group;
}

-- The rows with an outer group around a group. The outer group has the group's number. The group
-- and each row after it have the next one.
unfoldable pub with_outer : List Row → ℕ → ℕ → List Row
with_outer rows group weight =
    insert (slice_set (all_renumbered group rows) group (inner_group rows group weight)) group
    (outer_group rows group)

-- An outer group around a group has what the group has, and changes no other amount.
abbrev pub OuterGroupChangesNothing : Type 0
OuterGroupChangesNothing = (shape : Shape) (rows : List Row) (group weight : ℕ)
    (amounts others : List ℕ) → IsInstance (record { shape = shape; rows = rows })
    → IsInstance (record { shape = shape; rows = with_outer rows group weight })
    → group < length rows
    → IsPlan (record { shape = shape; rows = rows }) amounts
    → IsPlan (record { shape = shape; rows = with_outer rows group weight }) others
    → others ≡ insert amounts group (slice_index amounts group)
