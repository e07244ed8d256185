-- What stands at each turn of the loop in `take_node`.
use Rattle.std.proofs.Common.{◌≡◌, length}
use Rattle.bw_tree.specs.Nodes.{lowered_from}
use Rattle.bw_tree.proofs.node.take_node.Given as goal

abbrev pub invariant-loop-i : goal.invariant-loop-i
invariant-loop-i l = record {
  long : length l.nodes.items ≡ length l.initial.nodes.items;
  rest : lowered_from l.place l.i l.nodes.items
      ≡ lowered_from l.place l.place l.initial.nodes.items;
}
