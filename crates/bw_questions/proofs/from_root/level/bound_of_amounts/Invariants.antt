-- What stands at each turn of the loop in `bound_of_amounts`: no amount below `low` will do.
use Rattle.std.proofs.Common.{ℕ, ◌+◌, ◌-◌, ◌<◌, ◌≤◌}
use Rattle.bw_questions.specs.Needs.{CanMeet}
use Rattle.bw_questions.proofs.from_root.level.bound_of_amounts.Given as goal

abbrev pub invariant-loop-low : goal.invariant-loop-low
invariant-loop-low l = record {
  after : l.first ≤ l.low;
  in_order : l.low ≤ l.high;
  most : l.high ≤ l.limit + 1;
  below : (less : ℕ) → l.first ≤ less → less < l.low
      → CanMeet l.floors l.tops l.most l.needs less → ⊥;
}

abbrev pub decreases-loop-low : goal.decreases-loop-low
decreases-loop-low l = l.high - l.low
