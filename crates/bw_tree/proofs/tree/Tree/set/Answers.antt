-- The goals of `Tree::set` that are answered by hand.
use Rattle.std.proofs.Common.{is_some, sym, ap, subst, ◌∙◌}
use Rattle.bw_tree.specs.Groups.{TreeState}
use Rattle.bw_tree.specs.Children.{IsIndexedTree}
use Rattle.bw_tree.specs.Keys.{child_key}
use Rattle.bw_tree.proofs.IndexLemmas.{index_set}
use Rattle.bw_tree.proofs.NodeLemmas.{nodes_set}
use Rattle.bw_tree.specs.Tree.{changed_by}
use Rattle.bw_tree.proofs.SetLemmas.{CanSet, setting_IsTree, same_parent_by, same_name_by}
use Rattle.bw_tree.proofs.tree.Tree.set.Goals as goal

pub invariant_of-self : goal.invariant_of-self
invariant_of-self c =
    let t : TreeState =
    record { groups = c.self.inside.groups.entries; next = c.self.inside.next_id } in
    let s = c.args.setting in
    let can : CanSet t c.args.id = record {
      there = sym c.place_of.ensures.found ∙ ap is_some c.in-Some.is;
      inner = c.if-id-eq0.false;
    } in
    let kept = index_set (changed_by s) t.groups
    (child_key c.self.inside.index.seed c.self.invariant.fronts) c.args.id c.self.inside.index.children
    (same_parent_by s) (same_name_by s) c.self.invariant.index in
    subst (λ es. IsIndexedTree (record { groups = es; next = c.self.inside.next_id })
    c.self.inside.index.seed c.self.inside.index.children c.self.inside.nodes.items)
    (sym c.write_setting.ensures)
    (record {
      tree = setting_IsTree t c.args.id c.self.invariant.tree s can c.requires;
      fronts = c.self.invariant.fronts;
      index = kept;
      nodes = nodes_set (changed_by s) t.groups c.self.invariant.fronts c.args.id
          c.self.inside.nodes.items (same_parent_by s) (same_name_by s)
          c.self.invariant.nodes;
    })
