-- The goals of `Tree::row_at` that are answered by hand.
use Rattle.std.proofs.Common.{◌≡◌, ◌<◌, ℕ, None, length, get_or, rules}
use Rattle.std.proofs.Common.{sym, ap, subst, ◌∙◌}
use Rattle.bw_model.specs.Groups.{no_row}
use Rattle.bw_model.specs.declared.row.Row.{Row}
use Rattle.bw_tree.specs.Groups.{GroupFields, TreeState, IsTree, IsSound}
use Rattle.bw_tree.specs.Snapshot.{row_above, row_of, quota_slices}
use Rattle.bw_tree.proofs.SnapshotLemmas.{sound_at, value_at}
use Rattle.bw_tree.proofs.tree.Tree.row_at.Goals as goal

-- `same` is the tree as it is stored, from which the group was read
module _ {t same : TreeState} (equal : same ≡ t) (tree : IsTree same) (i : ℕ)
    (x : ℕ × GroupFields) (read : x ≡ get_or same.groups i x) (within : i < length t.groups) where
  is : x ≡ get_or t.groups i x
  is = read ∙ ap (λ (s : TreeState). get_or s.groups i x) equal

  valid : IsTree t
  valid = subst IsTree equal tree

  sound : IsSound x.1
  sound = sound_at t valid i x within is

pub quota_slices-quota-requires : goal.quota_slices-quota-requires
quota_slices-quota-requires c =
    sound c.self.view_is c.self.invariant.tree c.args.place (c.entry_at.result.0, c.entry_at.result.1.now) c.entry_at.ensures
    c.requires

pub period_limit-requires-clause-period : goal.period_limit-requires-clause-period
period_limit-requires-clause-period c =
    let group = subst IsSound (sym c.group.view_is)
    (sound c.self.view_is c.self.invariant.tree c.args.place (c.entry_at.result.0, c.entry_at.result.1.now) c.entry_at.ensures
    c.requires) in
    (group.long_period, group.short_period)

pub period_limit-requires-clause-burst : goal.period_limit-requires-clause-burst
period_limit-requires-clause-burst c =
    (subst IsSound (sym c.group.view_is)
    (sound c.self.view_is c.self.invariant.tree c.args.place (c.entry_at.result.0, c.entry_at.result.1.now) c.entry_at.ensures
    c.requires)).burst

pub returns-clause-quota : goal.returns-clause-quota
returns-clause-quota c =
    c.quota_slices-quota.ensures.value
    ∙ value_at (quota_slices c.args.shape) c.args.self.now.groups c.args.place (c.entry_at.result.0, c.entry_at.result.1.now)
    None c.requires
    (is c.self.view_is c.self.invariant.tree c.args.place (c.entry_at.result.0, c.entry_at.result.1.now) c.entry_at.ensures
    c.requires)

pub returns-clause-row : goal.returns-clause-row
returns-clause-row c =
    let gs = c.args.self.now.groups in
    let x : ℕ × GroupFields = (c.entry_at.result.0, c.entry_at.result.1.now) in
    let row : Row = record {
      parent = c.parent_row.result;
      weight = c.group.inside.weight;
      limit = c.period_limit.result;
      demand = c.group.inside.demand;
    } in
    let above : c.parent_row.result ≡ row_above gs x.1.parent =
    c.parent_row.ensures x ∙ ap (λ (y : ℕ × GroupFields). row_above gs y.1.parent)
    (sym (is c.self.view_is c.self.invariant.tree c.args.place x c.entry_at.ensures c.requires)) in
    let made : row ≡ row_of gs c.args.shape x.1 = search rules in
    made
    ∙ value_at (row_of gs c.args.shape) gs c.args.place x no_row c.requires
    (is c.self.view_is c.self.invariant.tree c.args.place x c.entry_at.ensures c.requires)
