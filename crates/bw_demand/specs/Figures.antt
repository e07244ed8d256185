-- Figures of gathered demands: the children among which a group's slices are split, and the slices
-- that limits withhold.
use Rattle.std.specs.Prelude.{◌≡◌, ℕ, ◌-◌, ◌<◌, List, Bool, nat_lt, Option, Some, None, length}
use Rattle.std.specs.Prelude.{filter, sum_by, slice_index, if◌then◌else◌}
use Rattle.bw_model.specs.declared.row.Row.{Row}
use Rattle.bw_model.specs.Groups.{Groups, row_of, parent_of, weight_of, children_of}
use Rattle.bw_model.specs.Demand.{want_of}

-- whether a group can be given a slice
abbrev pub is_active : List ℕ → ℕ → Bool
is_active most g = nat_lt 0 (slice_index most g)

-- the children of a group that can be given a slice, in order of creation
abbrev pub active_children : List Row → List ℕ → ℕ → List ℕ
active_children rows most g = filter (is_active most) (children_of rows g)

-- the weights of these children, added up
abbrev pub active_weight_of : List Row → List ℕ → ℕ → ℕ
active_weight_of rows most g = sum_by (weight_of rows) (active_children rows most g)

-- the weight of a group that can be given a slice, else 0
abbrev pub weight_if_active : List Row → List ℕ → ℕ → ℕ
weight_if_active rows most g = if is_active most g then weight_of rows g else 0

-- slices that a throttled group wants above its limit, 0 for the root, which has no parent
-- (sched-bwc.rst, "Statistics")
abbrev pub withheld_slices : Option ℕ → Option ℕ → ℕ → ℕ
withheld_slices None limit want = 0
withheld_slices (Some parent) None want = 0
withheld_slices (Some parent) (Some limit) want = want - limit

-- for each row the number of its active children, their weights added up, and the slices that its
-- own limit withholds
pub record AreFigures (groups : Groups) (most active active_weight withheld : List ℕ) : Type 0 where
  pub active_each : length active ≡ length groups.rows
  pub weights_each : length active_weight ≡ length groups.rows
  pub withheld_each : length withheld ≡ length groups.rows
  pub children : (g : ℕ) → g < length groups.rows
      → slice_index active g ≡ length (active_children groups.rows most g)
  pub weights : (g : ℕ) → g < length groups.rows
      → slice_index active_weight g ≡ active_weight_of groups.rows most g
  pub slices : (g : ℕ) → g < length groups.rows
      → slice_index withheld g ≡ withheld_slices (parent_of groups.rows g)
      (row_of groups.rows g).limit (want_of groups most g)
