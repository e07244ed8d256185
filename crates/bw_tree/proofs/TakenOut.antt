-- A group that is taken out, and the node of its parent.
use Rattle.std.proofs.Common.{◌≡◌, ◌≢◌, ◌<◌, ℕ, List, length, get_or, Some, None, position, false}
use Rattle.std.proofs.Common.{sym, ap, subst, ◌∙◌, eqb}
use Rattle.std.specs.Map.{keys_of}
use Rattle.bw_tree.specs.declared.node.Node.{Node}
use Rattle.bw_tree.specs.declared.path_hash.PathHash.{PathHash}
use Rattle.bw_tree.specs.Groups.{GroupFields, TreeState, IsTree, group_at, has_children, parent_of}
use Rattle.bw_tree.specs.Nodes.{AreNodesOf, node_at}
use Rattle.bw_tree.specs.Tree.{rmdir_refusal}
use Rattle.bw_tree.proofs.NodeLemmas.{node_found, node_within, some_child}
use Rattle.bw_tree.proofs.PlaceLemmas.{StandsAt, stands_at}
use Rattle.bw_tree.proofs.RemoveLemmas.{can_remove}

-- a group without children stands at one place, and its parent, which has a child, at another
pub record IsTakenOut (t : TreeState) (ns : List Node) (id parent i j : ℕ) : Type 0 where
  pub inner : id ≢ 0
  pub lone : has_children t.groups id ≡ false
  pub place : StandsAt t.groups id i
  pub above : StandsAt t.groups parent j
  pub within : i < length ns
  pub high : j < length ns
  pub some : 0 < (node_at ns j).children

pub taken_out : (t s : TreeState) (fronts : ℕ → PathHash) (ns : List Node) (id parent i : ℕ)
    (g : GroupFields) (node : Node) → t ≡ s → rmdir_refusal s id ≡ None → IsTree t
    → AreNodesOf t.groups fronts ns → position (eqb id) (keys_of t.groups) ≡ Some i
    → group_at t.groups id ≡ Some g → g.parent ≡ Some parent → node ≡ get_or ns i node
    → IsTakenOut t ns id parent i node.above
taken_out t s fronts ns id parent i g node same none ok all place at up read =
    let can = can_remove t id (subst (λ u. rmdir_refusal u id ≡ None) (sym same) none) in
    let own = node_found t.groups fronts ns id i node all place read in
    let above = own.place parent (ap parent_of at ∙ up) in
    record {
      inner = can.inner;
      lone = can.lone;
      place = stands_at t.groups id i place;
      above = stands_at t.groups parent node.above above;
      within = node_within t.groups fronts ns id i all place;
      high = node_within t.groups fronts ns parent node.above all above;
      some = some_child t.groups fronts id parent i node.above g at up ok.rising can.lone
          (λ q p h found upward. (ok.parents q p h found upward).0)
          (stands_at t.groups id i place) (stands_at t.groups parent node.above above) ns all;
    }
