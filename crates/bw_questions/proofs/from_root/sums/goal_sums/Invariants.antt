-- What stands at each turn of the loop in `goal_sums`: the sums of the rows from here on.
use Rattle.std.proofs.Common.{◌≡◌, ◌<◌, ◌≤◌, ℕ, length, get_or}
use Rattle.bw_questions.proofs.GoalSums.{sum_at}
use Rattle.bw_questions.proofs.from_root.sums.goal_sums.Given as goal

abbrev pub invariant-loop-g : goal.invariant-loop-g
invariant-loop-g l = record {
  one_each : length l.sums.items ≡ length l.instance.rows;
  known : (h : ℕ) → l.g ≤ h → h < length l.instance.rows
      → get_or l.sums.items h 0 ≡ sum_at l.instance.rows l.goals l.sums.items h;
}
