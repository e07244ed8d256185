-- The change that each call makes to a tree, or its first refusal.
use Rattle.std.specs.Prelude.{ℕ, nat_lt, Bool, false, zero, suc, ◌==◌, if◌then◌else◌, List, Option}
use Rattle.std.specs.Prelude.{Some, None, Result, Ok, Err, ℤ, pos, negsuc}
use Rattle.std.specs.Path.{rsplit_once}
use Rattle.bw_model.specs.declared.quota.Quota.{Quota}
use Rattle.bw_model.specs.declared.quota.Quota.TheVariants.{Max, Micros}
use Rattle.bw_tree.specs.declared.fault.TreeFault.{TreeFault}
use Rattle.bw_tree.specs.declared.fault.TreeFault.TheVariants.{NotFound, RootFixed}
use Rattle.bw_tree.specs.Groups.{GroupFields, TreeState, group_at, find_path}
use Rattle.bw_tree.specs.Tree.{mkdir_refusal, with_group, with_setting, set_weight, set_max}
use Rattle.bw_files.specs.declared.fault.FileFault.{FileFault}
use Rattle.bw_files.specs.declared.fault.FileFault.TheVariants.{QuotaTooSmall}
use Rattle.bw_files.specs.Reading.{◌>>=◌, weight_in, quota_in, period_in}
use Rattle.bw_hierarchy.specs.declared.fault.Fault.{Fault}
use Rattle.bw_hierarchy.specs.declared.fault.Fault.TheVariants.{Tree, File, BurstAboveQuota}

-- a value, unless the tree refuses
abbrev pub unless : {A : Type 0} → Option TreeFault → A → Result A Fault
unless (Some fault) x = Err (Tree fault)
unless None x = Ok x

-- a value, unless a text or its range is refused
abbrev pub from_file : {A : Type 0} → Result A FileFault → Result A Fault
from_file (Ok x) = Ok x
from_file (Err fault) = Err (File fault)

-- the next step, where the one before it was not refused
abbrev pub and_then : {A B : Type 0} → Result A Fault → (A → Result B Fault) → Result B Fault
and_then (Ok x) f = f x
and_then (Err fault) f = Err fault

-- a group that was looked for
abbrev pub found : Option ℕ → Result ℕ Fault
found None = Err (Tree NotFound)
found (Some id) = Ok id

-- the group at a path
abbrev pub found_at : TreeState → List ℕ → Result ℕ Fault
found_at t path = found (find_path t.groups path)

-- a path splits at its last `/`; where it has none, the parent is the root
abbrev pub mkdir_split : TreeState → Option (List ℕ × List ℕ) → List ℕ
    → Result (ℕ × TreeState) Fault
mkdir_split t None path = unless (mkdir_refusal t 0 path) (t.next, with_group t 0 path)
mkdir_split t (Some parts) path =
    and_then (found_at t parts.0)
    (λ parent. unless (mkdir_refusal t parent parts.1) (t.next, with_group t parent parts.1))

-- the id of the new group, and the tree with it
abbrev pub mkdir_of : TreeState → List ℕ → Result (ℕ × TreeState) Fault
mkdir_of t path = mkdir_split t (rsplit_once 47 path) path

-- a group whose settings may be read and changed: each but the root
abbrev pub setting_of : ℕ → Option GroupFields → Result GroupFields Fault
setting_of id None = Err (Tree NotFound)
setting_of id (Some g) = if id == 0 then Err (Tree RootFixed) else Ok g

-- a group whose settings may be read and changed, by its id
abbrev pub setting : TreeState → ℕ → Result GroupFields Fault
setting t id = setting_of id (group_at t.groups id)

-- a value of such a group
abbrev pub value_at : {A : Type 0} → (GroupFields → A) → TreeState → ℕ → Result A Fault
value_at f t id = and_then (setting t id) (λ g. Ok (f g))

-- one group's weight, by its id
abbrev pub set_shares_of : TreeState → ℕ → ℕ → Result TreeState Fault
set_shares_of t id n =
    and_then (setting t id)
    (λ g. and_then (from_file (weight_in n)) (λ w. Ok (with_setting (set_weight w) t id)))

-- a quota of -1 is no limit, and other numbers below 1000 are too small
abbrev pub quota_of_int : ℤ → Result Quota FileFault
quota_of_int (pos n) = quota_in (Some n)
quota_of_int (negsuc zero) = Ok Max
quota_of_int (negsuc (suc n)) = Err QuotaTooSmall

-- the number of a quota
abbrev pub int_of_quota : Quota → ℤ
int_of_quota Max = negsuc 0
int_of_quota (Micros us) = pos us

-- the quota that is asked for, where one is
abbrev pub quota_given : Option ℤ → Quota → Result Quota FileFault
quota_given None old = Ok old
quota_given (Some quota) old = quota_of_int quota

-- the period that is asked for, where one is
abbrev pub checked_period : Option ℕ → Result (Option ℕ) FileFault
checked_period None = Ok None
checked_period (Some n) = period_in n >>= λ p. Ok (Some p)

-- whether a burst is above a limit, both in microseconds as they are written
abbrev pub is_above : ℕ → Quota → Bool
is_above burst Max = false
is_above burst (Micros us) = nat_lt us burst

-- a value, unless a burst is above a limit
abbrev pub fitting : {A : Type 0} → ℕ → Quota → A → Result A Fault
fitting burst quota x = if is_above burst quota then Err BurstAboveQuota else Ok x

-- the quota of a group
abbrev pub quota_at : Option GroupFields → Quota
quota_at None = Max
quota_at (Some g) = g.quota

-- the burst of a group
abbrev pub burst_at : Option GroupFields → ℕ
burst_at None = 0
burst_at (Some g) = g.burst

-- a limit, and a period where there is one, that the group's burst fits
abbrev pub max_set : TreeState → ℕ → Quota → Option ℕ → Result TreeState Fault
max_set t id quota period =
    fitting (burst_at (group_at t.groups id)) quota (with_setting (set_max quota period) t id)

-- one group's quota and period, by its id; a value that is left out stays
abbrev pub set_cfs_of : TreeState → ℕ → Option ℤ → Option ℕ → Result TreeState Fault
set_cfs_of t id quota period =
    and_then (setting t id)
    (λ g. and_then (from_file (quota_given quota g.quota))
    (λ q. and_then (from_file (checked_period period)) (max_set t id q)))
