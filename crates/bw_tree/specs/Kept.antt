-- A snapshot that is kept beside its tree.
use Rattle.std.specs.Prelude.{◌≡◌, ◌<◌, ◌≤◌, ℕ, true, nat_eq, List, length, Option, Some}
use Rattle.std.specs.Prelude.{None, slice_index_or}
use Rattle.std.specs.List.{IsDistinct}
use Rattle.std.specs.Map.{keys_of}
use Rattle.bw_model.specs.Groups.{Groups, IsInstance, is_leaf}
use Rattle.bw_model.specs.Host.{Shape}
use Rattle.bw_model.specs.declared.limits.TheConstants.{MAX_DEMAND}
use Rattle.bw_model.specs.OneRow.{with_demand, with_limit}
use Rattle.bw_tree.specs.Groups.{GroupFields, TreeState, IsSound}
use Rattle.bw_tree.specs.Snapshot.{instance_of, rows_of, base_of}
use Rattle.bw_tree.specs.Tree.{setting_refusal, with_setting}
use Rattle.bw_tree.specs.declared.snapshot.Snapshot.{Snapshot}

-- the rows, the ids and the quotas are those of a tree's groups on a host
pub record IsSnapshotOf (snapshot : Snapshot) (tree : TreeState) (shape : Shape) : Type 0 where
  pub rows : snapshot.instance ≡ instance_of tree shape
  pub valid : IsInstance (instance_of tree shape)
  pub ids : snapshot.ids.items ≡ keys_of tree.groups
  pub quotas : snapshot.quotas.items ≡ base_of tree.groups shape
  pub ids_long : length snapshot.ids.items ≡ length snapshot.instance.rows
  pub quotas_long : length snapshot.quotas.items ≡ length snapshot.instance.rows
  pub distinct : IsDistinct nat_eq snapshot.ids.items

-- a snapshot that is kept is one of the tree on a host
abbrev pub IsKept : Option Snapshot → TreeState → Shape → Type 0
IsKept None tree shape = Unit {0}
IsKept (Some snapshot) tree shape = IsSnapshotOf snapshot tree shape

-- a demand that the row at a place may have
pub record CanSetRow (place demand : ℕ) (snapshot : Snapshot) : Type 0 where
  pub valid : IsInstance snapshot.instance
  pub within : place < length snapshot.instance.rows
  pub small : demand ≤ MAX_DEMAND
  pub leaf : 0 < demand → is_leaf snapshot.instance.rows place ≡ true

-- the snapshot, with another demand in the row at a place
abbrev pub demand_set : ℕ → ℕ → Snapshot → Snapshot
demand_set place demand snapshot =
    record snapshot { instance = with_demand snapshot.instance place demand }

-- the snapshot, with another limit in the row at a place
abbrev pub limit_set : ℕ → Option ℕ → Snapshot → Snapshot
limit_set place limit snapshot =
    record snapshot { instance = with_limit snapshot.instance place limit }

-- a snapshot that is kept is one of the tree before settings of the group with this id changed; a
-- setting leaves the parent and the demand
pub record IsBehind (kept : Option Snapshot) (tree : TreeState) (shape : Shape) (id : ℕ) : Type 0
  where
    pub settable : setting_refusal tree id ≡ None
    pub before : TreeState
    pub was_kept : IsKept kept before shape
    pub change : GroupFields → GroupFields
    pub parent_stays : (g : GroupFields) → (change g).parent ≡ g.parent
    pub demand_stays : (g : GroupFields) → (change g).demand ≡ g.demand
    pub step : tree ≡ with_setting change before id

-- the rows of some groups on a host
abbrev pub on_host : List (ℕ × GroupFields) → Shape → Groups
on_host groups shape = record { shape = shape; rows = rows_of groups shape }

-- each group's values are in range
abbrev pub AreSound : List (ℕ × GroupFields) → Type 0
AreSound groups = (g : ℕ) (group : ℕ × GroupFields) → g < length groups
    → group ≡ slice_index_or groups g group → IsSound group.1
