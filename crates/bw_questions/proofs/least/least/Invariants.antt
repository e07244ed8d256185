-- Lesser values fall short, and the value above the gap reaches the amount.
use Rattle.std.proofs.Common.{◌≡◌, ℕ, ◌+◌, ◌-◌, ◌^◌, ◌<◌, ◌≤◌}
use Rattle.bw_questions.specs.Change.{changed, greatest_of}
use Rattle.bw_questions.specs.Least.{Reaches}
use Rattle.bw_questions.specs.Plans.{halvings_of}
use Rattle.bw_questions.proofs.least.least.Given as goal

abbrev pub invariant-loop-low : goal.invariant-loop-low
invariant-loop-low l = record {
  gap : (1 ≤ l.low) × (l.low ≤ l.high) × (l.high ≤ greatest_of l.setting + 1)
      × ((v : ℕ) → 1 ≤ v → v < l.low
      → Reaches (changed l.instance l.setting l.group v) l.group l.amount → ⊥)
      × (l.high ≤ greatest_of l.setting
      → Reaches (changed l.instance l.setting l.group l.high) l.group l.amount);
  no_fewer : l.fn.plans.steps ≤ l.plans.steps;
  few : l.plans.steps ≤ l.fn.plans.steps + halvings_of l.setting;
  halved : l.high - l.low < 2 ^ (l.fn.plans.steps + halvings_of l.setting - l.plans.steps);
  begun : l.plans.steps ≡ l.fn.plans.steps → l.low < l.high;
}

abbrev pub decreases-loop-low : goal.decreases-loop-low
decreases-loop-low l = l.high - l.low
