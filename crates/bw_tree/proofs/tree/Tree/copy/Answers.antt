-- The goals of `Tree::copy` that are answered by hand.
use Rattle.std.proofs.Common.{length, sym, ap, subst, ◌∙◌}
use Rattle.bw_tree.specs.Groups.{TreeState, IsTree}
use Rattle.std.specs.List.{each_same}
use Rattle.bw_tree.specs.Children.{AreNamed}
use Rattle.bw_tree.specs.Nodes.{AreNodesOf}
use Rattle.bw_tree.proofs.IndexLemmas.{tree_named, same_entries}
use Rattle.bw_tree.proofs.NodeLemmas.{as_many}
use Rattle.bw_tree.proofs.tree.Tree.copy.Goals as goal

pub copy_to-requires-clause-named : goal.copy_to-requires-clause-named
copy_to-requires-clause-named c =
    let t : TreeState =
    record { groups = c.self.inside.groups.entries; next = c.self.inside.next_id } in
    let same = same_entries c.self.inside.groups.entries c.in_ok-groups.groups.entries
    c.in_ok-groups.ensures.cases in
    subst (λ es. AreNamed es es) (sym same) (tree_named t c.self.invariant.tree)

pub copy_to-requires-clause-long : goal.copy_to-requires-clause-long
copy_to-requires-clause-long c =
    let same = same_entries c.self.inside.groups.entries c.in_ok-groups.groups.entries
    c.in_ok-groups.ensures.cases in
    let beside = each_same c.self.inside.nodes.items c.in_ok-nodes.nodes.items
    c.in_ok-nodes.ensures.cases.0 in
    ap length beside
    ∙ as_many c.self.inside.groups.entries c.self.invariant.fronts c.self.inside.nodes.items
    c.self.invariant.nodes
    ∙ sym (ap length same)

pub invariant_of-result : goal.invariant_of-result
invariant_of-result c =
    let same = same_entries c.self.inside.groups.entries c.in_ok-groups.groups.entries
    c.in_ok-groups.ensures.cases in
    let beside = each_same c.self.inside.nodes.items c.in_ok-nodes.nodes.items
    c.in_ok-nodes.ensures.cases.0 in
    let nodes = subst (AreNodesOf c.in_ok-groups.groups.entries c.self.invariant.fronts) (sym beside)
    (subst (λ es. AreNodesOf es c.self.invariant.fronts c.self.inside.nodes.items) (sym same)
    c.self.invariant.nodes) in
    record {
      tree = subst (λ es. IsTree (record { groups = es; next = c.self.inside.next_id })) (sym same)
          c.self.invariant.tree;
      fronts = c.self.invariant.fronts;
      index = c.in_ok-index.ensures.index c.self.invariant.fronts nodes;
      nodes = nodes;
    }

pub returns-clause-made : goal.returns-clause-made
returns-clause-made c =
    let same = same_entries c.self.inside.groups.entries c.in_ok-groups.groups.entries
    c.in_ok-groups.ensures.cases in
    ap (λ es. record { groups = es; next = c.self.inside.next_id }) same ∙ c.self.view_is
