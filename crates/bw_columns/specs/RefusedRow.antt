-- The row that a refusal of rows speaks of.
use Rattle.std.specs.Prelude.{◌≡◌, ℕ, ◌<◌, Bool, true, false, ◌||◌, ◌&&◌, ◌==◌, not, nat_lt, List}
use Rattle.std.specs.Prelude.{is_some, length, unwrap_or}
use Rattle.bw_model.specs.declared.limits.TheConstants.{MAX_GROUPS, MIN_WEIGHT, MAX_WEIGHT}
use Rattle.bw_model.specs.declared.limits.TheConstants.{MAX_DEPTH, MAX_DEMAND}
use Rattle.bw_model.specs.declared.row.Row.{Row}
use Rattle.bw_model.specs.declared.instance_fault.InstanceFault.{InstanceFault}
use Rattle.bw_model.specs.declared.instance_fault.InstanceFault.TheVariants.{TooMany, BadParent}
use Rattle.bw_model.specs.declared.instance_fault.InstanceFault.TheVariants.{BadWeight, TooDeep}
use Rattle.bw_model.specs.declared.instance_fault.InstanceFault.TheVariants.{InnerDemand}
use Rattle.bw_model.specs.declared.instance_fault.InstanceFault.TheVariants.{DemandTooLarge}
use Rattle.bw_model.specs.declared.instance_fault.InstanceFault.TheVariants.{RootLimited}
use Rattle.bw_model.specs.declared.instance_fault.InstanceFault.TheVariants.{OutOfMemory}
use Rattle.bw_model.specs.Groups.{row_of, parent_of, weight_of, demand_of, depth_of}
use Rattle.bw_model.specs.Refusal.{is_earlier, demand_above}

-- whether a row is one for which a fault refuses the rows
abbrev pub has_fault : List Row → InstanceFault → ℕ → Bool
has_fault rows TooMany g = not (nat_lt g MAX_GROUPS)
has_fault rows BadParent g = not (is_earlier g (parent_of rows g))
has_fault rows BadWeight g =
    nat_lt (weight_of rows g) MIN_WEIGHT || nat_lt MAX_WEIGHT (weight_of rows g)
has_fault rows TooDeep g = nat_lt MAX_DEPTH (depth_of rows g)
has_fault rows InnerDemand g = nat_lt 0 (demand_above rows (parent_of rows g))
has_fault rows DemandTooLarge g = nat_lt MAX_DEMAND (demand_of rows g)
has_fault rows RootLimited g = (g == 0) && is_some (row_of rows g).limit
has_fault rows OutOfMemory g = false

-- the first row that has a fault
pub record IsFirstRow (rows : List Row) (fault : InstanceFault) (g : ℕ) : Type 0 where
  pub within : g < length rows
  pub faulty : has_fault rows fault g ≡ true
  pub before : (k : ℕ) → k < g → has_fault rows fault k ≡ false

-- no row has a fault
abbrev pub IsNoRow : List Row → InstanceFault → Type 0
IsNoRow rows fault = (k : ℕ) → k < length rows → has_fault rows fault k ≡ false

-- the row that a fault of a row speaks of: the row itself, and its parent where that has a demand
abbrev pub spoken_of : List Row → InstanceFault → ℕ → ℕ
spoken_of rows InnerDemand g = unwrap_or (parent_of rows g) 0
spoken_of rows fault g = g

-- the row that a refusal speaks of: that of the first row with the fault
abbrev pub IsRefusedRow : List Row → InstanceFault → ℕ → Type 0
IsRefusedRow rows fault row = (g : ℕ) × IsFirstRow rows fault g × (row ≡ spoken_of rows fault g)
