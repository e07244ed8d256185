-- What stands at each turn of the loop in `is_free`: no row before it has a goal near the row.
use Rattle.std.proofs.Common.{◌≡◌, ℕ, ◌<◌, false}
use Rattle.bw_questions.specs.OtherLimits.{has_goal_near}
use Rattle.bw_questions.proofs.other_limits.free.is_free.Given as goal

abbrev pub invariant-loop-g : goal.invariant-loop-g
invariant-loop-g l = record {
  so_far : (k : ℕ) → k < l.g → has_goal_near l.instance.rows l.goals l.h k ≡ false;
}
