-- A host of any number of processors, and one that is planned in its place.
use Rattle.std.specs.Prelude.{◌≡◌, ◌⊎◌, ◌<◌, ◌≤◌, ◌==◌, ◌&&◌, ℕ, Bool, List, Some, None, ◌/◌, ◌%◌}
use Rattle.std.specs.Prelude.{nat_le, min}
use Rattle.bw_model.specs.declared.row.Row.{Row}
use Rattle.bw_model.specs.declared.limits.TheConstants.{MAX_PROCESSORS, MAX_PER_PROCESSOR}
use Rattle.bw_model.specs.declared.limits.TheConstants.{MIN_SLICE_US}
use Rattle.bw_model.specs.declared.host.HostFault.{HostFault}
use Rattle.bw_model.specs.declared.host.HostFault.TheVariants.{BadProcessors}
use Rattle.bw_model.specs.Host.{Shape, IsHost, host_refusal, capacity_of}
use Rattle.bw_model.specs.Groups.{Groups}
use Rattle.bw_model.specs.Plan.{IsPlan}

-- groups on a host
abbrev pub groups_on : Shape → List Row → Groups
groups_on shape rows = record { shape = shape; rows = rows }

-- two hosts on which the same amounts are the plan, whatever the rows are
pub record HaveSamePlans (one other : Shape) : Type 0 where
  pub there : (rows : List Row) (amounts : List ℕ) → IsPlan (groups_on one rows) amounts
      → IsPlan (groups_on other rows) amounts
  pub back : (rows : List Row) (amounts : List ℕ) → IsPlan (groups_on other rows) amounts
      → IsPlan (groups_on one rows) amounts

-- a host with no more than 64 of its processors
abbrev pub cut : Shape → Shape
cut shape = record {
  processors = min shape.processors MAX_PROCESSORS;
  period_us = shape.period_us;
  slice_us = shape.slice_us;
}

-- the host that is planned in place of another one: itself with at most 64 processors, else with
-- slices of a millisecond the one of the same capacity that has most processors
pub record IsPlannedHost (asked planned : Shape) : Type 0 where
  pub accepted : host_refusal (cut asked) ≡ None
  pub host : IsHost planned
  pub same_capacity : capacity_of planned ≡ capacity_of asked
  pub same_plans : HaveSamePlans asked planned
  pub itself : asked.processors ≤ MAX_PROCESSORS → planned ≡ asked
  pub slice : MAX_PROCESSORS < asked.processors → planned.slice_us ≡ MIN_SLICE_US
  pub most : MAX_PROCESSORS < asked.processors → (other : Shape) → IsHost other
      → capacity_of other ≡ capacity_of asked → other.processors ≤ planned.processors

-- a host of more than 64 processors whose capacity no host has
pub record IsOfNoCapacity (asked : Shape) : Type 0 where
  pub accepted : host_refusal (cut asked) ≡ None
  pub many : MAX_PROCESSORS < asked.processors
  pub none : (other : Shape) → IsHost other → capacity_of other ≡ capacity_of asked → ⊥

-- the fault of a host that is not planned
abbrev pub IsUnplannedHost : Shape → HostFault → Type 0
IsUnplannedHost asked fault =
    (host_refusal (cut asked) ≡ Some fault) ⊎ (IsOfNoCapacity asked × (fault ≡ BadProcessors))

-- whether so many processors can share a capacity in slices
abbrev pub can_share : ℕ → ℕ → Bool
can_share capacity processors =
    (capacity % processors == 0) && nat_le (capacity / processors) MAX_PER_PROCESSOR
