-- The goals of `Tree::has_children_there` that are answered by hand.
use Rattle.std.proofs.Common.{◌≡◌, Some, position, sym, ap, subst, ◌∙◌, arith, eqb, ltb}
use Rattle.std.specs.Map.{keys_of}
use Rattle.bw_tree.specs.Groups.{TreeState, has_children}
use Rattle.bw_tree.proofs.CountLemmas.{count_has}
use Rattle.bw_tree.proofs.NodeLemmas.{node_found, node_within}
use Rattle.bw_tree.proofs.tree.Tree.has_children_there.Goals as goal

pub index-requires : goal.index-requires
index-requires c =
    let gs = c.self.inside.groups.entries in
    let place : position (eqb c.args.id) (keys_of gs) ≡ Some c.args.place =
    subst (λ (t : TreeState). position (eqb c.args.id) (keys_of t.groups) ≡ Some c.args.place)
    (sym c.self.view_is) c.requires in
    omega (
      arith,
      node_within gs c.self.invariant.fronts c.self.inside.nodes.items c.args.id c.args.place
          c.self.invariant.nodes place,
    )

pub returns : goal.returns
returns c =
    let gs = c.self.inside.groups.entries in
    let place : position (eqb c.args.id) (keys_of gs) ≡ Some c.args.place =
    subst (λ (t : TreeState). position (eqb c.args.id) (keys_of t.groups) ≡ Some c.args.place)
    (sym c.self.view_is) c.requires in
    let own = node_found gs c.self.invariant.fronts c.self.inside.nodes.items c.args.id c.args.place
    c.index.result.now c.self.invariant.nodes place c.index.ensures in
    ap (ltb 0) own.children
    ∙ count_has gs c.args.id
    ∙ ap (λ (s : TreeState). has_children s.groups c.args.id) c.self.view_is
