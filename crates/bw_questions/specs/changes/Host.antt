-- Laws of a greater capacity, greater limits and greater demands.
use Rattle.std.specs.Prelude.{◌≡◌, ℕ, ◌<◌, ◌≤◌, List, Some, length, slice_index}
use Rattle.bw_model.specs.declared.row.Row.{Row}
use Rattle.bw_model.specs.Groups.{Groups, IsInstance, demand_of, limit_of}
use Rattle.bw_model.specs.Host.{Shape, capacity_of}
use Rattle.bw_model.specs.Plan.{IsPlan}
use Rattle.bw_questions.specs.changes.Tree.{IsSameTree}

-- On a host with a greater capacity no group has less.
abbrev pub CapacityTakesNothing : Type 0
CapacityTakesNothing = (rows : List Row) (shape greater : Shape) (amounts others : List ℕ)
    → IsInstance (record { shape = shape; rows = rows })
    → IsInstance (record { shape = greater; rows = rows })
    → capacity_of shape ≤ capacity_of greater
    → IsPlan (record { shape = shape; rows = rows }) amounts
    → IsPlan (record { shape = greater; rows = rows }) others
    → (g : ℕ) → g < length rows → slice_index amounts g ≤ slice_index others g

-- A roomier instance: no demand is smaller and no limit lower. The root is limited by the
-- capacity.
pub record IsRoomier (groups roomier : Groups) : Type 0 where
  pub tree : IsSameTree groups.rows roomier.rows
  pub demands : (g : ℕ) → demand_of groups.rows g ≤ demand_of roomier.rows g
  pub limits : (g limit : ℕ) → limit_of roomier g ≡ Some limit
      → (lower : ℕ) × (limit_of groups g ≡ Some lower) × (lower ≤ limit)

-- A roomier instance is served no less in all.
abbrev pub RaisedLimitsServeNoLess : Type 0
RaisedLimitsServeNoLess = (groups roomier : Groups) (amounts others : List ℕ)
    → IsInstance groups → IsInstance roomier → IsRoomier groups roomier
    → IsPlan groups amounts → IsPlan roomier others
    → slice_index amounts 0 ≤ slice_index others 0
