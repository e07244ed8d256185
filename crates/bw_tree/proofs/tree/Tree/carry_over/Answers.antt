-- The goals of `Tree::carry_over` that are answered by hand.
use Rattle.std.proofs.Common.{◌≡◌, List, ℕ, length, sym, ap, subst, ◌∙◌}
use Rattle.bw_model.specs.Groups.{Groups}
use Rattle.bw_tree.specs.Groups.{GroupFields, TreeState}
use Rattle.bw_tree.specs.Snapshot.{carried, left_over}
use Rattle.bw_tree.specs.Children.{IsIndexedTree}
use Rattle.bw_tree.specs.Keys.{child_key}
use Rattle.bw_tree.specs.Kept.{IsSnapshotOf, on_host}
use Rattle.bw_tree.proofs.CarryLemmas.{carried_IsTree, index_carried, nodes_carried}
use Rattle.bw_tree.proofs.KeptLemmas.{tree_sound, carried_snapshot}
use Rattle.bw_tree.proofs.SnapshotLemmas.{length_rows}
use Rattle.bw_tree.proofs.tree.Tree.carry_over.Goals as goal

pub write_carries-requires-clause-step : goal.write_carries-requires-clause-step
write_carries-requires-clause-step c =
    c.requires.snapshot.rows
    ∙ ap (λ (t : TreeState). on_host t.groups c.args.shape) (sym c.self.view_is)

pub write_carries-requires-clause-sound : goal.write_carries-requires-clause-sound
write_carries-requires-clause-sound c =
    tree_sound (record { groups = c.self.inside.groups.entries; next = c.self.inside.next_id })
    c.self.invariant.tree

pub write_carries-requires-clause-drawn : goal.write_carries-requires-clause-drawn
write_carries-requires-clause-drawn c =
    c.requires.drawn ∙ ap (λ (g : Groups). length g.rows) c.requires.snapshot.rows
    ∙ length_rows c.args.self.now.groups c.args.shape
    ∙ ap (λ (t : TreeState). length t.groups) (sym c.self.view_is)

pub invariant_of-self : goal.invariant_of-self
invariant_of-self c =
    let t : TreeState =
    record { groups = c.self.inside.groups.entries; next = c.self.inside.next_id } in
    subst (λ es. IsIndexedTree (record { groups = es; next = c.self.inside.next_id })
    c.self.inside.index.seed c.self.inside.index.children c.self.inside.nodes.items)
    (sym c.write_carries.ensures.carries)
    (record {
      tree = carried_IsTree t _ c.self.invariant.tree;
      fronts = c.self.invariant.fronts;
      index = index_carried t.groups _ (child_key c.self.inside.index.seed c.self.invariant.fronts)
          c.self.inside.index.children c.self.invariant.index;
      nodes = nodes_carried t.groups _ c.self.invariant.fronts c.self.inside.nodes.items
          c.self.invariant.nodes;
    })

pub returns-clause-snapshot : goal.returns-clause-snapshot
returns-clause-snapshot c =
    let next = c.self.inside.next_id in
    let t : TreeState = record { groups = c.self.inside.groups.entries; next = next } in
    let shape = c.args.shape in
    let old = c.args.snapshot.now in
    let new = c.write_carries.new.snapshot in
    let drawn = c.args.drawn.now in
    let is : IsSnapshotOf old t shape =
    subst (λ (s : TreeState). IsSnapshotOf old s shape) (sym c.self.view_is)
    c.requires.snapshot in
    let written : c.write_carries.new.groups.entries
    ≡ carried t.groups (left_over old.instance.rows drawn) =
    c.write_carries.ensures.carries
    ∙ ap (λ (g : Groups). carried t.groups (left_over g.rows drawn)) (sym is.rows) in
    subst (λ (es : List (ℕ × GroupFields)).
    IsSnapshotOf new (record { groups = es; next = next }) shape) (sym written)
    (carried_snapshot t shape drawn old new c.self.invariant.tree is
    (c.write_carries.ensures.step
    ∙ ap (λ (es : List (ℕ × GroupFields)). on_host es shape) written)
    c.write_carries.ensures.ids c.write_carries.ensures.quotas)
