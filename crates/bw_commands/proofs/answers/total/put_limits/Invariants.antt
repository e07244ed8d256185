-- What stands at each turn of the loop in `put_limits`.
use Rattle.std.proofs.Common.{◌≡◌, ◌≤◌, ◌++◌, ℕ, List, take}
use Rattle.std.specs.Vec.{vec_capacity}
use Rattle.bw_commands.specs.GroupLines.{ArePathsOf}
use Rattle.bw_commands.specs.Total.{limit_lines}
use Rattle.bw_commands.proofs.answers.total.put_limits.Given as goal

abbrev pub invariant-loop-g : goal.invariant-loop-g
invariant-loop-g l = record {
  taken : (paths : List (List ℕ)) × ArePathsOf l.tree (take l.g-index l.groups) paths
      × (l.answer.items ≡ l.initial.answer.items
      ++ limit_lines l.instance (take l.g-index l.groups) paths);
  room : vec_capacity l.initial.answer ≤ vec_capacity l.answer;
}
