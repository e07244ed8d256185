-- The slices that a group draws over many periods.
use Rattle.std.specs.Prelude.{◌≡◌, ◌≢◌, ℕ, suc, ◌+◌, nat_eq, if◌then◌else◌, List, [], ◌∷◌, length}
use Rattle.std.specs.Prelude.{Option, Some, None}
use Rattle.std.specs.List.{AllByRecursion}
use Rattle.std.specs.Map.{values_of}
use Rattle.bw_model.specs.Host.{Shape}
use Rattle.bw_model.specs.Quota.{in_slices}
use Rattle.bw_model.specs.declared.quota.Quota.{Quota}
use Rattle.bw_tree.specs.Groups.{GroupFields, TreeState, group_at}
use Rattle.bw_tree.specs.Snapshot.{quota_slices, period_limit, left_of, rows_of, carried_over}
use Rattle.bw_tree.specs.Snapshot.{IsDrawnWithin}
use Rattle.bw_tree.specs.Tree.{with_group, without_group, with_setting, set_demand, set_weight}
use Rattle.bw_tree.specs.Tree.{set_quota, set_period, set_burst, set_carry}

-- a call that changes a tree, where it is not refused
pub data Call : Type 0 where
  Book : (drawn : List ℕ) → Call
  Mkdir : (parent : ℕ) (name : List ℕ) → Call
  Rmdir : (id : ℕ) → Call
  SetDemand : (id demand : ℕ) → Call
  SetWeight : (id weight : ℕ) → Call
  SetLimit : (id : ℕ) (quota : Quota) → Call
  SetPeriod : (id period : ℕ) → Call
  SetBurst : (id burst : ℕ) → Call

-- the tree that a call leaves; a period is booked on the tree's own snapshot
abbrev pub after_call : Shape → TreeState → Call → TreeState
after_call shape t (Book drawn) = carried_over t (rows_of t.groups shape) drawn
after_call shape t (Mkdir parent name) = with_group t parent name
after_call shape t (Rmdir id) = without_group t id
after_call shape t (SetDemand id demand) = with_setting (set_demand demand) t id
after_call shape t (SetWeight id weight) = with_setting (set_weight weight) t id
after_call shape t (SetLimit id quota) = with_setting (set_quota quota) t id
after_call shape t (SetPeriod id period) = with_setting (set_period period) t id
after_call shape t (SetBurst id burst) = with_setting (set_burst burst) t id

-- a period may book these slices: one number for each group, none above its limit
pub record CanBook (shape : Shape) (t : TreeState) (drawn : List ℕ) : Type 0 where
  pub count : length drawn ≡ length t.groups
  pub within : IsDrawnWithin (rows_of t.groups shape) drawn

-- a period books what it may, and this group is not removed
abbrev pub KeepsGroup : Shape → ℕ → TreeState → Call → Type 0
KeepsGroup shape id t (Book drawn) = CanBook shape t drawn
KeepsGroup shape id t (Rmdir gone) = gone ≢ id
KeepsGroup shape id t call = Unit {0}

-- the burst of a group in whole slices of the host's period
abbrev pub burst_slices : Shape → GroupFields → ℕ
burst_slices shape g = in_slices shape g.period g.burst

-- the group with this id has this quota and this burst, both in whole slices of the host's period
pub record HasBandwidth (shape : Shape) (t : TreeState) (id quota burst : ℕ) : Type 0 where
  pub group : GroupFields
  pub found : group_at t.groups id ≡ Some group
  pub has_quota : quota_slices shape group ≡ Some quota
  pub has_burst : burst_slices shape group ≡ burst

-- before each of these calls and after them all, the group has this quota and this burst
abbrev pub KeepsBandwidth : Shape → ℕ → ℕ → ℕ → TreeState → List Call → Type 0
KeepsBandwidth shape id quota burst t [] = HasBandwidth shape t id quota burst
KeepsBandwidth shape id quota burst t (call ∷ calls) =
    HasBandwidth shape t id quota burst × KeepsGroup shape id t call
    × KeepsBandwidth shape id quota burst (after_call shape t call) calls

-- the slices that the group with this id drew, of those that each group drew
abbrev pub drawn_at : List (ℕ × GroupFields) → List ℕ → ℕ → ℕ
drawn_at [] drawn id = 0
drawn_at (e ∷ es) [] id = 0
drawn_at (e ∷ es) (d ∷ ds) id = if nat_eq id e.0 then d else drawn_at es ds id

-- the slices that the group with this id draws by a call: 0 but for a booked period
abbrev pub drawn_by : ℕ → TreeState → Call → ℕ
drawn_by id t (Book drawn) = drawn_at t.groups drawn id
drawn_by id t call = 0

-- the slices that the group with this id draws in all booked periods
abbrev pub drawn_in : Shape → ℕ → TreeState → List Call → ℕ
drawn_in shape id t [] = 0
drawn_in shape id t (call ∷ calls) =
    drawn_by id t call + drawn_in shape id (after_call shape t call) calls

-- the number of booked periods
abbrev pub periods_in : List Call → ℕ
periods_in [] = 0
periods_in (Book drawn ∷ calls) = suc (periods_in calls)
periods_in (call ∷ calls) = periods_in calls

-- the slices that a group left over in the last booked period
abbrev pub carry_of : Option GroupFields → ℕ
carry_of None = 0
carry_of (Some g) = g.carry

-- the slices that the group with this id left over in the last booked period
abbrev pub carry_at : TreeState → ℕ → ℕ
carry_at t id = carry_of (group_at t.groups id)

-- a group after a booked period: what is left of its limit is noted, and nothing else changes
abbrev pub with_left : Shape → ℕ → Option GroupFields → Option GroupFields
with_left shape drawn None = None
with_left shape drawn (Some g) = Some (set_carry (left_of (period_limit shape g) drawn) g)

-- no group has a burst
abbrev pub HasNoBurst : List (ℕ × GroupFields) → Type 0
HasNoBurst groups = AllByRecursion (λ (g : GroupFields). g.burst ≡ 0) (values_of groups)
