-- The goals of `group_columns` that are answered by hand.
use Rattle.std.proofs.Common.{◌≡◌, ◌∙◌, sym, subst, ap}
use Rattle.std.specs.Map.{keys_of}
use Rattle.bw_model.specs.Groups.{Groups}
use Rattle.bw_tree.specs.Snapshot.{instance_of}
use Rattle.bw_columns.specs.Groups.{AreLong}
use Rattle.bw_columns.proofs.ColumnsOfGroups.{columns_by, long_columns}
use Rattle.bw_columns.proofs.groups.group_columns.Goals as goal

pub returns-clause-told : goal.returns-clause-told
returns-clause-told c =
    let h = c.args.hierarchy.now in
    let rows : c.rows-rows.result.now ≡ (instance_of h.tree h.shape).rows =
    c.rows-rows.ensures.rows ∙ ap (λ (g : Groups). g.rows) c.in_ok-snapshot.ensures.rows in
    let ids : c.as_slice-ids.result.now ≡ keys_of h.tree.groups =
    c.as_slice-ids.ensures.value ∙ c.in_ok-snapshot.ensures.ids in
    columns_by h c.rows-rows.result.now c.tree-tree.result.now c.as_slice-ids.result.now
    c.in_ok-parents.field-0.items c.in_ok-weights.field-0.items c.in_ok-limits.field-0.items
    c.in_ok-demands.field-0.items c.in_ok-quotas.field-0.items c.in_ok-periods.field-0.items
    c.in_ok-bursts.field-0.items c.in_ok-carries.field-0.items c.in_ok-names.field-0.items rows
    c.tree-tree.ensures ids c.in_ok-parents.ensures c.in_ok-weights.ensures c.in_ok-limits.ensures
    c.in_ok-demands.ensures c.in_ok-quotas.ensures c.in_ok-periods.ensures c.in_ok-bursts.ensures
    c.in_ok-carries.ensures c.in_ok-names.ensures

pub returns-clause-long : goal.returns-clause-long
returns-clause-long c =
    subst AreLong (sym (returns-clause-told c)) (long_columns c.args.hierarchy.now)
