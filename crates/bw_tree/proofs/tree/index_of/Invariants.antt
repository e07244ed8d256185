-- What stands at each turn of the loop in `index_of`.
use Rattle.std.proofs.Common.{ℕ, drop}
use Rattle.bw_tree.specs.Keys.{child_key}
use Rattle.bw_tree.specs.Nodes.{AreNodesOf}
use Rattle.bw_tree.specs.Children.{AreNamed}
use Rattle.bw_tree.specs.declared.path_hash.PathHash.{PathHash}
use Rattle.bw_tree.proofs.IndexLemmas.{IsPartIndex}
use Rattle.bw_tree.proofs.tree.index_of.Given as goal

abbrev pub invariant-loop-place : goal.invariant-loop-place
invariant-loop-place l = record {
  left : AreNamed l.groups.entries (drop l.place l.groups.entries);
  part : (fronts : ℕ → PathHash) → AreNodesOf l.groups.entries fronts l.nodes.items
      → IsPartIndex l.groups.entries (drop l.place l.groups.entries) (child_key l.seed fronts)
      l.children;
}
