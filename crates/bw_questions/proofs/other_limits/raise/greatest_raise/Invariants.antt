-- What stands at each turn of the loop in `greatest_raise`: the lower end will do, and no level from
-- the upper end on.
use Rattle.std.proofs.Common.{ℕ, ◌+◌, ◌-◌, ◌<◌, ◌≤◌}
use Rattle.bw_questions.specs.OtherLimits.{CanBeMet, raised_limits}
use Rattle.bw_questions.proofs.other_limits.raise.greatest_raise.Given as goal

abbrev pub invariant-loop-met : goal.invariant-loop-met
invariant-loop-met l = record {
  no_lower : l.low ≤ l.met;
  apart : l.met < l.over;
  most : l.over ≤ l.high + 1;
  can : CanBeMet l.measure l.instance l.goals l.may
      (raised_limits l.instance l.limits l.only l.met);
  none : (more : ℕ) → l.over ≤ more → more ≤ l.high → CanBeMet l.measure l.instance l.goals l.may
      (raised_limits l.instance l.limits l.only more) → ⊥;
}

abbrev pub decreases-loop-met : goal.decreases-loop-met
decreases-loop-met l = l.over - l.met
