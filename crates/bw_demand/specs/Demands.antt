-- The demands gathered of an instance: one most, want and flag for each row.
use Rattle.std.specs.Prelude.{◌≡◌, ℕ, ◌<◌, List, Bool, false, length, slice_index, slice_index_or}
use Rattle.bw_model.specs.Groups.{Groups}
use Rattle.bw_model.specs.Demand.{AreMaxTotals, want_of, is_tight}
use Rattle.bw_demand.specs.declared.gathered.Gathered.{Gathered}

-- for each row its want, its most, and whether it is tight
pub record Demands : Type 0 where
  pub want : List ℕ
  pub most : List ℕ
  pub tight : List Bool

-- the program's gathered demands, as lists
abbrev pub demands_of : Gathered → Demands
demands_of gathered =
    record { want = gathered.want.items; most = gathered.most.items; tight = gathered.tight.items }

-- the greatest totals under each group over the allocations, the wants by these, and the groups
-- whose limit is below their want
pub record IsGathered (groups : Groups) (demands : Demands) : Type 0 where
  pub wants_each : length demands.want ≡ length groups.rows
  pub flags_each : length demands.tight ≡ length groups.rows
  pub mosts : AreMaxTotals groups demands.most
  pub wants : (g : ℕ) → g < length groups.rows
      → slice_index demands.want g ≡ want_of groups demands.most g
  pub flags : (g : ℕ) → g < length groups.rows
      → slice_index_or demands.tight g false ≡ is_tight groups demands.most g
