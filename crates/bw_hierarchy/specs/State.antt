-- A hierarchy: the host, its tree of groups, and their counters.
use Rattle.std.specs.Prelude.{ℕ, List, [], Option, Result}
use Rattle.std.specs.Map.{keys_of}
use Rattle.bw_model.specs.declared.row.Row.{Row}
use Rattle.bw_model.specs.Host.{Shape}
use Rattle.bw_model.specs.declared.stat.Stat.{Stat}
use Rattle.bw_tree.specs.Groups.{TreeState}
use Rattle.bw_tree.specs.Tree.{root_alone, rmdir_refusal, without_group, demand_refusal}
use Rattle.bw_tree.specs.Tree.{with_setting, set_demand}
use Rattle.bw_tree.specs.declared.limits.TheConstants.{FIRST_ID}
use Rattle.bw_tree.specs.Snapshot.{carried_over}
use Rattle.bw_stat.specs.Books.{booked, shares_of, forgotten}
use Rattle.bw_hierarchy.specs.declared.fault.Fault.{Fault}
use Rattle.bw_hierarchy.specs.Calls.{and_then, found_at, unless}

-- a host, its tree of groups, and the counters by the ids of the groups
pub record HierarchyState : Type 0 where
  pub shape : Shape
  pub tree : TreeState
  pub books : List (ℕ × Stat)

-- the state with another tree
abbrev pub with_tree : HierarchyState → TreeState → HierarchyState
with_tree h t = record { shape = h.shape; tree = t; books = h.books }

-- the state with other counters
abbrev pub with_books : HierarchyState → List (ℕ × Stat) → HierarchyState
with_books h books = record { shape = h.shape; tree = h.tree; books = books }

-- a period of these rows: what each group wanted and drew is counted, and what it left of its limit
-- is noted
abbrev pub booked_period : HierarchyState → List Row → List (Option ℕ) → List ℕ → List ℕ
    → HierarchyState
booked_period h rows base wants drawn =
    with_books (with_tree h (carried_over h.tree rows drawn))
    (booked h.books (shares_of h.shape.slice_us rows (keys_of h.tree.groups) base wants drawn))

-- the root alone, and no counters
abbrev pub new_hierarchy : Shape → HierarchyState
new_hierarchy shape = record { shape = shape; tree = root_alone FIRST_ID; books = [] }

-- one group removed with its counters, by its id
abbrev pub delete_of : HierarchyState → ℕ → Result HierarchyState Fault
delete_of h id = unless (rmdir_refusal h.tree id)
    (with_books (with_tree h (without_group h.tree id)) (forgotten h.books id))

-- one group removed with its counters, by its path
abbrev pub rmdir_of : HierarchyState → List ℕ → Result HierarchyState Fault
rmdir_of h path = and_then (found_at h.tree path) (delete_of h)

-- one group's demand in slices, by its path
abbrev pub demand_set_of : HierarchyState → List ℕ → ℕ → Result HierarchyState Fault
demand_set_of h path n =
    and_then (found_at h.tree path)
    (λ id. unless (demand_refusal h.tree id n)
    (with_tree h (with_setting (set_demand n) h.tree id)))
