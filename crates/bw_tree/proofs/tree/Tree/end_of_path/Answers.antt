-- The goals of `Tree::end_of_path` that are answered by hand.
use Rattle.std.proofs.Common.{◌≡◌, ◌<◌, length, List, ℕ, Some, sym, ap, subst, ◌∙◌, arith, rules}
use Rattle.bw_tree.specs.Groups.{TreeState}
use Rattle.bw_tree.specs.Tails.{IsWay}
use Rattle.bw_tree.proofs.NodeLemmas.{node_found, node_within}
use Rattle.bw_tree.proofs.TailLemmas.{way_of_name}
use Rattle.bw_tree.proofs.tree.Tree.end_of_path.Goals as goal

pub index-requires : goal.index-requires
index-requires c =
    omega (
      arith,
      node_within c.self.inside.groups.entries c.self.invariant.fronts c.self.inside.nodes.items
          c.args.id c.in_ok-place.place c.self.invariant.nodes
          (sym c.place_of.ensures.place ∙ c.in_ok-place.was),
    )

-- its own name
pub returns-then-is_none-clause-way : goal.returns-then-is_none-clause-way
returns-then-is_none-clause-way c =
    let gs = c.self.inside.groups.entries in
    let group = c.group_there-group.result.now in
    let parent = c.in_ok-parent.parent in
    let up : group.parent ≡ Some parent =
    sym (ap (λ g. g.parent) c.group.view_is) ∙ c.in_ok-parent.was in
    let name : c.as_bytes.result.now ≡ group.name =
    c.as_bytes.ensures.value ∙ c.as_str.ensures.value ∙ ap (λ g. g.name) c.group.view_is in
    let way : IsWay gs group.name parent c.args.id =
    way_of_name gs parent c.args.id group.name
    (c.self.invariant.tree.named c.args.id parent group c.group_there-group.ensures up) in
    subst (λ (t : TreeState). IsWay t.groups c.as_bytes.result.now parent c.args.id) c.self.view_is
    (subst (λ (n : List ℕ). IsWay gs n parent c.args.id) (sym name) way)

-- the names of its tail
pub returns-clause-way : goal.returns-clause-way
returns-clause-way c =
    let gs = c.self.inside.groups.entries in
    let tail = c.index.result.now.tail in
    let some : 0 < length tail.text.bytes = search rules in
    let own = node_found gs c.self.invariant.fronts c.self.inside.nodes.items c.args.id
    c.in_ok-place.place c.index.result.now c.self.invariant.nodes
    (sym c.place_of.ensures.place ∙ c.in_ok-place.was) c.index.ensures in
    let text : c.as_bytes-2.result.now ≡ tail.text.bytes =
    c.as_bytes-2.ensures.value ∙ c.text.ensures in
    subst (λ (t : TreeState). IsWay t.groups c.as_bytes-2.result.now c.top.result c.args.id)
    c.self.view_is
    (subst (λ (n : List ℕ). IsWay gs n c.top.result c.args.id) (sym text)
    (subst (λ k. IsWay gs tail.text.bytes k c.args.id) (sym c.top.ensures) (own.tail some)))
