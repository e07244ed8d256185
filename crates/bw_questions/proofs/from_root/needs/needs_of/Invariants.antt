-- What stands at each turn of the loop in `needs_of`: the needs of the rows from here on.
use Rattle.std.proofs.Common.{◌≡◌, ◌<◌, ◌≤◌, ℕ, length}
use Rattle.bw_questions.specs.Passes.{IsNeed}
use Rattle.bw_questions.proofs.from_root.needs.needs_of.Given as goal

abbrev pub invariant-loop-g : goal.invariant-loop-g
invariant-loop-g l = record {
  one_each : length l.needs.items ≡ length l.instance.rows;
  known : (h : ℕ) → l.g ≤ h → h < length l.instance.rows
      → IsNeed l.instance l.tops l.most l.goals l.needs.items h;
}
