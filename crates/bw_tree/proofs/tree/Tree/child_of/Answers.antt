-- The goals of `Tree::child_of` that are answered by hand.
use Rattle.std.proofs.Common.{◌≡◌, is_some, false, sym, ap, ◌∙◌}
use Rattle.bw_tree.specs.Groups.{TreeState, has_group, child_of}
use Rattle.bw_tree.specs.Children.{child_at}
use Rattle.bw_tree.specs.Keys.{number, with_bytes}
use Rattle.bw_tree.specs.Nodes.{IsNodeOf}
use Rattle.bw_tree.proofs.IndexLemmas.{no_child}
use Rattle.bw_tree.proofs.NodeLemmas.{childless, node_read, node_within}
use Rattle.bw_tree.proofs.PlaceLemmas.{stands_at}
use Rattle.bw_tree.proofs.tree.Tree.child_of.Goals as goal

pub path_below-path-requires : goal.path_below-path-requires
path_below-path-requires c =
    node_within c.self.inside.groups.entries c.self.invariant.fronts c.self.inside.nodes.items
    c.args.parent c.in-Some.above c.self.invariant.nodes
    (sym c.place_of.ensures.place ∙ c.in-Some.is)

pub returns-in_default : goal.returns-in_default
returns-in_default c =
    let t : TreeState =
    record { groups = c.self.inside.groups.entries; next = c.self.inside.next_id } in
    let none : has_group t.groups c.args.parent ≡ false =
    sym c.place_of.ensures.found ∙ ap is_some c.in_default.is in
    sym (no_child t.groups c.args.parent c.args.name.now
    (childless t c.self.invariant.tree c.args.parent none))
    ∙ ap (λ (s : TreeState). child_of s.groups c.args.parent c.args.name.now) c.self.view_is

pub returns : goal.returns
returns c =
    let gs = c.self.inside.groups.entries in
    let seed = c.self.inside.index.seed in
    let own = node_read (IsNodeOf gs c.self.invariant.fronts) gs c.self.inside.nodes.items
    c.args.parent c.in-Some.above
    (stands_at gs c.args.parent c.in-Some.above (sym c.place_of.ensures.place ∙ c.in-Some.is))
    c.self.invariant.nodes in
    c.get.ensures
    ∙ ap (λ k. child_at gs c.self.inside.index.children k c.args.parent c.args.name.now)
    (c.number-key.ensures ∙ ap (number seed) (c.path_below-path.ensures
    ∙ ap (λ h. with_bytes seed h c.args.name.now) own.front))
    ∙ c.self.invariant.index.children c.args.parent c.args.name.now
    ∙ ap (λ (s : TreeState). child_of s.groups c.args.parent c.args.name.now) c.self.view_is
