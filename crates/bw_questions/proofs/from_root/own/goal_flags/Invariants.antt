-- What stands at each turn of the loop in `goal_flags`: the flags of the rows from here on.
use Rattle.std.proofs.Common.{◌≡◌, ◌<◌, ◌≤◌, ℕ, false, length, get_or}
use Rattle.bw_questions.specs.Lowered.{has_goal}
use Rattle.bw_questions.proofs.from_root.own.goal_flags.Given as goal

abbrev pub invariant-loop-g : goal.invariant-loop-g
invariant-loop-g l = record {
  one_each : length l.flags.items ≡ length l.instance.rows;
  known : (h : ℕ) → l.g ≤ h → h < length l.instance.rows
      → get_or l.flags.items h false ≡ has_goal l.instance.rows l.goals h;
}
