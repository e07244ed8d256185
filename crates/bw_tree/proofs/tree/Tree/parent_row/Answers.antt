-- The goals of `Tree::parent_row` that are answered by hand.
use Rattle.std.proofs.Common.{◌≡◌, ◌<◌, ℕ, Option, List, Some, length, get_or, position, sym, ap}
use Rattle.std.proofs.Common.{subst, ◌∙◌, arith, eqb}
use Rattle.std.proofs.lemmas.List.{get_or-map, length-map, get_or_default}
use Rattle.std.specs.Map.{keys_of}
use Rattle.bw_tree.specs.declared.node.Node.{Node}
use Rattle.bw_tree.specs.declared.path_hash.PathHash.{PathHash}
use Rattle.bw_tree.specs.Groups.{GroupFields, TreeState, IsTree, group_at, parent_of}
use Rattle.bw_tree.specs.Nodes.{AreNodesOf}
use Rattle.bw_tree.specs.Snapshot.{row_above}
use Rattle.bw_tree.proofs.NodeLemmas.{as_many, node_found}
use Rattle.bw_tree.proofs.SnapshotLemmas.{found_at, place_read}
use Rattle.bw_tree.proofs.tree.Tree.parent_row.Goals as goal

-- `same` is the tree as it is stored, from which the group was read
module _ {t same : TreeState} (equal : same ≡ t) (tree : IsTree same) (i : ℕ)
    (x : ℕ × GroupFields) (read : x ≡ get_or same.groups i x) (within : i < length t.groups) where
  here : i < length same.groups
  here = omega (arith, within, ap (λ (s : TreeState). length s.groups) equal)

  -- whatever is read where there is no group
  is : (d : ℕ × GroupFields) → x ≡ get_or t.groups i d
  is d = read ∙ ap (λ (s : TreeState). get_or s.groups i x) equal
      ∙ get_or_default t.groups i x d within

  group : group_at same.groups x.0 ≡ Some x.1
  group = subst (λ (y : ℕ × GroupFields). group_at same.groups y.0 ≡ Some y.1) (sym read)
      (found_at same.groups i x tree.rising here)

  place : position (eqb x.0) (keys_of same.groups) ≡ Some i
  place = place_read same.groups i x.0 tree.rising
      (omega (arith, here, length-map same.groups (λ (e : ℕ × GroupFields). e.0)))
      (get_or-map (λ (e : ℕ × GroupFields). e.0) same.groups i x 0 here
      ∙ sym (ap (λ (y : ℕ × GroupFields). y.0) read))

  -- the node of a group has its parent's row
  row : (fronts : ℕ → PathHash) (ns : List Node) (node : Node) (parent : Option ℕ) (p : ℕ)
      → AreNodesOf same.groups fronts ns → node ≡ get_or ns i node → x.1.parent ≡ parent
      → parent ≡ Some p → Some node.above ≡ row_above t.groups x.1.parent
  row fronts ns node parent p all at up some =
      let own = node_found same.groups fronts ns x.0 i node all place at in
      sym (own.place p (ap parent_of group ∙ up ∙ some))
      ∙ ap (row_above same.groups) (sym (up ∙ some))
      ∙ ap (λ (s : TreeState). row_above s.groups x.1.parent) equal

pub entry_at-requires : goal.entry_at-requires
entry_at-requires c = omega (arith, ap (λ (s : TreeState). length s.groups) c.self.view_is)

pub index-requires : goal.index-requires
index-requires c =
    omega (
      arith,
      ap (λ (s : TreeState). length s.groups) c.self.view_is,
      as_many c.self.inside.groups.entries c.self.invariant.fronts c.self.inside.nodes.items
          c.self.invariant.nodes,
    )

pub returns-in-Some : goal.returns-in-Some
returns-in-Some c d =
    let x : ℕ × GroupFields = (c.entry_at.result.0, c.entry_at.result.1.now) in
    let up = sym (ap (λ (g : GroupFields). g.parent) c.group.view_is) in
    row c.self.view_is c.self.invariant.tree c.args.place x c.entry_at.ensures c.requires
    c.self.invariant.fronts c.self.inside.nodes.items c.index.result.now
    c.group.inside.parent c.in-Some.field-0 c.self.invariant.nodes
    c.index.ensures up c.in-Some.is
    ∙ ap (λ (y : ℕ × GroupFields). row_above c.args.self.now.groups y.1.parent)
    (is c.self.view_is c.self.invariant.tree c.args.place x c.entry_at.ensures c.requires d)

pub returns-in-None : goal.returns-in-None
returns-in-None c d =
    let x : ℕ × GroupFields = (c.entry_at.result.0, c.entry_at.result.1.now) in
    let up = sym (ap (λ (g : GroupFields). g.parent) c.group.view_is) in
    sym (ap (row_above c.args.self.now.groups) (up ∙ c.in-None.is))
    ∙ ap (λ (y : ℕ × GroupFields). row_above c.args.self.now.groups y.1.parent)
    (is c.self.view_is c.self.invariant.tree c.args.place x c.entry_at.ensures c.requires d)
