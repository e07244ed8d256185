-- The groups of a hierarchy, in columns of numbers.
use Rattle.std.specs.Prelude.{◌≡◌, ℕ, List, [], ◌∷◌, ◌++◌, drop, length, map, Option, Some, None}
use Rattle.std.specs.Map.{keys_of}
use Rattle.bw_model.specs.declared.quota.Quota.{Quota}
use Rattle.bw_model.specs.declared.quota.Quota.TheVariants.{Max, Micros}
use Rattle.bw_tree.specs.Groups.{GroupFields, group_at}
use Rattle.bw_tree.specs.Snapshot.{instance_of}
use Rattle.bw_hierarchy.specs.State.{HierarchyState}
use Rattle.bw_columns.specs.declared.columns.TheConstants.{NO_PARENT, NO_LIMIT}
use Rattle.bw_columns.specs.Asked.{limit_number}
use Rattle.bw_columns.specs.declared.groups.GroupColumns.{GroupColumns}

-- the number of a parent's row: the greatest number of 32 bits for none
abbrev pub parent_number : Option ℕ → ℕ
parent_number None = NO_PARENT
parent_number (Some row) = row

-- the number of a quota in microseconds: the greatest number of 64 bits for none
abbrev pub quota_number : Quota → ℕ
quota_number Max = NO_LIMIT
quota_number (Micros us) = us

-- a number of a group, 0 where there is none
abbrev pub number_at : (GroupFields → ℕ) → Option GroupFields → ℕ
number_at number None = 0
number_at number (Some g) = number g

-- the name of a group, and a newline
abbrev pub name_line : Option GroupFields → List ℕ
name_line None = 10 ∷ []
name_line (Some g) = g.name ++ 10 ∷ []

-- the names of the groups with these ids, each with a newline behind it
abbrev pub name_lines : List (ℕ × GroupFields) → List ℕ → List ℕ
name_lines groups [] = []
name_lines groups (id ∷ ids) = name_line (group_at groups id) ++ name_lines groups ids

-- the groups by column
pub record Told : Type 0 where
  pub parents : List ℕ
  pub weights : List ℕ
  pub limits : List ℕ
  pub demands : List ℕ
  pub quotas : List ℕ
  pub periods : List ℕ
  pub bursts : List ℕ
  pub carries : List ℕ
  pub names : List ℕ

-- a number of each group, in order of creation
abbrev pub numbers_of : (GroupFields → ℕ) → HierarchyState → List ℕ
numbers_of number h =
    map (λ id. number_at number (group_at h.tree.groups id)) (keys_of h.tree.groups)

-- the columns of a hierarchy: parents, weights, limits and demands are those of its rows in the
-- next period; quotas, own periods and bursts are as they were written
abbrev pub told_of : HierarchyState → Told
told_of h = record {
  parents = map (λ row. parent_number row.parent) (instance_of h.tree h.shape).rows;
  weights = map (λ row. row.weight) (instance_of h.tree h.shape).rows;
  limits = map (λ row. limit_number row.limit) (instance_of h.tree h.shape).rows;
  demands = map (λ row. row.demand) (instance_of h.tree h.shape).rows;
  quotas = numbers_of (λ g. quota_number g.quota) h;
  periods = numbers_of (λ g. g.period) h;
  bursts = numbers_of (λ g. g.burst) h;
  carries = numbers_of (λ g. g.carry) h;
  names = name_lines h.tree.groups (keys_of h.tree.groups);
}

-- nine columns
abbrev pub columns_with : List ℕ → List ℕ → List ℕ → List ℕ → List ℕ → List ℕ → List ℕ → List ℕ
    → List ℕ → Told
columns_with parents weights limits demands quotas periods bursts carries names =
    record {
      parents = parents;
      weights = weights;
      limits = limits;
      demands = demands;
      quotas = quotas;
      periods = periods;
      bursts = bursts;
      carries = carries;
      names = names;
    }

-- the program's columns, as lists
abbrev pub columns_of : GroupColumns → Told
columns_of c =
    columns_with c.parents.items c.weights.items c.limits.items c.demands.items c.quotas.items
    c.periods.items c.bursts.items c.carries.items c.names.items

-- one entry for each group in each column of numbers
pub record AreLong (told : Told) : Type 0 where
  pub weights : length told.weights ≡ length told.parents
  pub limits : length told.limits ≡ length told.parents
  pub demands : length told.demands ≡ length told.parents
  pub quotas : length told.quotas ≡ length told.parents
  pub periods : length told.periods ≡ length told.parents
  pub bursts : length told.bursts ≡ length told.parents
  pub carries : length told.carries ≡ length told.parents

-- a list at the front of a column, and behind it what stood there
abbrev pub on_front : List ℕ → List ℕ → List ℕ
on_front list before = list ++ drop (length list) before

-- the columns of the groups at the front of these
abbrev pub on_columns : Told → Told → Told
on_columns told before = record {
  parents = on_front told.parents before.parents;
  weights = on_front told.weights before.weights;
  limits = on_front told.limits before.limits;
  demands = on_front told.demands before.demands;
  quotas = on_front told.quotas before.quotas;
  periods = on_front told.periods before.periods;
  bursts = on_front told.bursts before.bursts;
  carries = on_front told.carries before.carries;
  names = on_front told.names before.names;
}
