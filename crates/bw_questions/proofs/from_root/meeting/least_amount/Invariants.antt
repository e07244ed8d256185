-- What stands at each turn of the loop in `least_amount`: no lesser amount will do, the upper end
-- will.
use Rattle.std.proofs.Common.{ℕ, ◌+◌, ◌-◌, ◌<◌, ◌≤◌}
use Rattle.bw_questions.specs.Needs.{CanMeet}
use Rattle.bw_questions.proofs.from_root.meeting.least_amount.Given as goal

abbrev pub invariant-loop-low : goal.invariant-loop-low
invariant-loop-low l = record {
  after : l.first < l.low;
  in_order : l.low ≤ l.high;
  most : l.high ≤ l.limit + 1;
  near : l.reach ≤ l.limit;
  below : (less : ℕ) → l.first ≤ less → less < l.low
      → CanMeet l.floors l.tops l.most l.needs less → ⊥;
  above : l.high ≤ l.limit → CanMeet l.floors l.tops l.most l.needs l.high;
}

abbrev pub decreases-loop-low : goal.decreases-loop-low
decreases-loop-low l = l.high - l.low
