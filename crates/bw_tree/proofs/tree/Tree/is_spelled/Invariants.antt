-- What stands at each turn of the loop in `Tree::is_spelled`, and what falls.
use Rattle.std.proofs.Common.{◌≡◌, ◌≢◌, Some, length}
use Rattle.bw_tree.specs.Paths.{path_at}
use Rattle.bw_tree.proofs.tree.Tree.is_spelled.Given as goal

abbrev pub invariant-loop-top : goal.invariant-loop-top
invariant-loop-top l =
    l.at ≢ 0 → path_at l.self.groups l.at ≡ Some l.left
    → path_at l.self.groups l.id ≡ Some l.text

abbrev pub decreases-loop-top : goal.decreases-loop-top
decreases-loop-top l = length l.left
