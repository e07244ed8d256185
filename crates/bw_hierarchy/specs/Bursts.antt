-- Bursts and quotas of all groups of a hierarchy.
use Rattle.std.specs.Prelude.{ℕ, ◌≤◌, List}
use Rattle.std.specs.List.{AllByRecursion}
use Rattle.std.specs.Map.{values_of}
use Rattle.bw_model.specs.Host.{Shape}
use Rattle.bw_model.specs.declared.quota.Quota.{Quota}
use Rattle.bw_model.specs.declared.quota.Quota.TheVariants.{Max, Micros}
use Rattle.bw_tree.specs.Groups.{GroupFields, TreeState}
use Rattle.bw_hierarchy.specs.CallLists.{Call, after_calls}
use Rattle.bw_hierarchy.specs.State.{new_hierarchy}

-- a burst is at most a quota that is not `max`, both in microseconds
abbrev pub IsWithin : ℕ → Quota → Type 0
IsWithin burst Max = Unit {0}
IsWithin burst (Micros us) = burst ≤ us

-- the burst of each group is at most its quota
abbrev pub AreBurstsWithin : TreeState → Type 0
AreBurstsWithin t = AllByRecursion (λ (g : GroupFields). IsWithin g.burst g.quota)
    (values_of t.groups)

-- after any calls on a new hierarchy the burst of each group is at most its quota
abbrev pub CallsKeepBurstsWithin : Type 0
CallsKeepBurstsWithin = (shape : Shape) (calls : List Call)
    → AreBurstsWithin (after_calls (new_hierarchy shape) calls).tree
