-- The columns of a hierarchy are of one length, and what is written is them.
use Rattle.std.proofs.Common.{◌≡◌, ◌≤◌, ℕ, List, length, map, refl, sym, ap, ◌∙◌, arith}
use Rattle.std.specs.Map.{keys_of, values_of}
use Rattle.std.proofs.lemmas.List.{length-map}
use Rattle.bw_model.specs.declared.row.Row.{Row}
use Rattle.bw_model.specs.Groups.{IsInstance}
use Rattle.bw_model.specs.declared.limits.TheConstants.{MAX_GROUPS}
use Rattle.bw_tree.specs.Groups.{GroupFields, TreeState, group_at}
use Rattle.bw_tree.specs.Snapshot.{instance_of, row_of}
use Rattle.bw_hierarchy.specs.State.{HierarchyState}
use Rattle.bw_columns.specs.Asked.{limit_number}
use Rattle.bw_columns.specs.Groups.{Told, told_of, AreLong, number_at, parent_number}
use Rattle.bw_columns.specs.Groups.{quota_number, name_lines, columns_with, on_front}
use Rattle.bw_columns.specs.Groups.{on_columns}

of_rows : (h : HierarchyState) (number : Row → ℕ)
    → length (map number (instance_of h.tree h.shape).rows) ≡ length h.tree.groups
of_rows h number =
    length-map (instance_of h.tree h.shape).rows number
    ∙ length-map (values_of h.tree.groups) (row_of h.tree.groups h.shape)
    ∙ length-map h.tree.groups (λ (e : ℕ × GroupFields). e.1)

of_ids : (h : HierarchyState) (number : ℕ → ℕ)
    → length (map number (keys_of h.tree.groups)) ≡ length h.tree.groups
of_ids h number =
    length-map (keys_of h.tree.groups) number
    ∙ length-map h.tree.groups (λ (e : ℕ × GroupFields). e.0)

pub long_columns : (h : HierarchyState) → AreLong (told_of h)
long_columns h =
    let parents = of_rows h (λ row. parent_number row.parent) in
    record {
      weights = of_rows h (λ row. row.weight) ∙ sym parents;
      limits = of_rows h (λ row. limit_number row.limit) ∙ sym parents;
      demands = of_rows h (λ row. row.demand) ∙ sym parents;
      quotas = of_ids h (λ id. number_at (λ g. quota_number g.quota)
          (group_at h.tree.groups id)) ∙ sym parents;
      periods = of_ids h (λ id. number_at (λ g. g.period) (group_at h.tree.groups id))
          ∙ sym parents;
      bursts = of_ids h (λ id. number_at (λ g. g.burst) (group_at h.tree.groups id))
          ∙ sym parents;
      carries = of_ids h (λ id. number_at (λ g. g.carry) (group_at h.tree.groups id))
          ∙ sym parents;
    }

pub few_columns : (h : HierarchyState) → IsInstance (instance_of h.tree h.shape)
    → length (told_of h).parents ≤ MAX_GROUPS
few_columns h known =
    let rows = length-map (instance_of h.tree h.shape).rows
    (λ (row : Row). parent_number row.parent) in
    omega (arith, rows, known.few)

-- the columns by rows, a tree and ids
pub columns_by : (h : HierarchyState) (rows : List Row) (tree : TreeState) (ids : List ℕ)
    (parents weights limits demands quotas periods bursts carries names : List ℕ)
    → rows ≡ (instance_of h.tree h.shape).rows → tree ≡ h.tree → ids ≡ keys_of h.tree.groups
    → parents ≡ map (λ row. parent_number row.parent) rows → weights ≡ map (λ row. row.weight) rows
    → limits ≡ map (λ row. limit_number row.limit) rows → demands ≡ map (λ row. row.demand) rows
    → quotas ≡ map (λ id. number_at (λ g. quota_number g.quota) (group_at tree.groups id)) ids
    → periods ≡ map (λ id. number_at (λ g. g.period) (group_at tree.groups id)) ids
    → bursts ≡ map (λ id. number_at (λ g. g.burst) (group_at tree.groups id)) ids
    → carries ≡ map (λ id. number_at (λ g. g.carry) (group_at tree.groups id)) ids
    → names ≡ name_lines tree.groups ids
    → columns_with parents weights limits demands quotas periods bursts carries names ≡ told_of h
columns_by h rows tree ids parents weights limits demands quotas periods bursts carries names
    rows_are tree_is ids_are p w l d q e b c n =
    rw (p, w, l, d, q, e, b, c, n, rows_are, tree_is, ids_are) refl

-- a list at the front of a column
pub front_by : (list items before after : List ℕ) → after ≡ on_front list before → list ≡ items
    → after ≡ on_front items before
front_by list items before after e is = e ∙ ap (λ l. on_front l before) is

-- all columns are written
pub columns_written : (told before : Told)
    (parents weights limits demands quotas periods bursts carries names : List ℕ)
    → parents ≡ on_front told.parents before.parents
    → weights ≡ on_front told.weights before.weights
    → limits ≡ on_front told.limits before.limits
    → demands ≡ on_front told.demands before.demands
    → quotas ≡ on_front told.quotas before.quotas
    → periods ≡ on_front told.periods before.periods
    → bursts ≡ on_front told.bursts before.bursts
    → carries ≡ on_front told.carries before.carries
    → names ≡ on_front told.names before.names
    → columns_with parents weights limits demands quotas periods bursts carries names
    ≡ on_columns told before
columns_written told before parents weights limits demands quotas periods bursts carries names
    p w l d q e b c n = rw (p, w, l, d, q, e, b, c, n) refl
