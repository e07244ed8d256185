-- What stands at each turn of the loop in `last_slash`, and what falls.
use Rattle.std.proofs.Common.{◌≡◌, ◌≤◌, length}
use Rattle.std.specs.Path.{rfind_below}
use Rattle.bw_hierarchy.proofs.by_path.last_slash.Given as goal

abbrev pub invariant-loop-end : goal.invariant-loop-end
invariant-loop-end l =
    (l.end ≤ length l.path) × (rfind_below 47 l.path l.end ≡ rfind_below 47 l.path (length l.path))

abbrev pub decreases-loop-end : goal.decreases-loop-end
decreases-loop-end l = l.end
