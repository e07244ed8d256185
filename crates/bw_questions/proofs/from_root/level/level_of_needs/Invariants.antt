-- What stands at each turn of the loop in `level_of_needs`: the upper end is a level of the needs.
use Rattle.std.proofs.Common.{◌-◌, ◌≤◌}
use Rattle.bw_questions.specs.Needs.{IsLevelOfNeeds}
use Rattle.bw_questions.proofs.from_root.level.level_of_needs.Given as goal

abbrev pub invariant-loop-low : goal.invariant-loop-low
invariant-loop-low l = record {
  some : 1 ≤ l.low;
  in_order : l.low ≤ l.high;
  upper : IsLevelOfNeeds l.amount l.weights l.most l.needs l.high;
}

abbrev pub decreases-loop-low : goal.decreases-loop-low
decreases-loop-low l = l.high - l.low
