-- What falls at each step of the recursion of `Tree::push_path`.
use Rattle.bw_tree.proofs.tree.Tree.+push_path.Given as goal

abbrev pub decreases-push_path : goal.decreases-push_path
decreases-push_path l = l.id
