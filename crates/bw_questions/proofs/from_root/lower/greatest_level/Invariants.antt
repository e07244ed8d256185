-- What stands at each turn of the loop in `greatest_level`: the lower end will do, and no level from
-- the upper end on.
use Rattle.std.proofs.Common.{ℕ, ◌+◌, ◌-◌, ◌<◌, ◌≤◌}
use Rattle.bw_model.specs.declared.limits.TheConstants.{MIN_WEIGHT, MAX_WEIGHT}
use Rattle.bw_questions.specs.Lowered.{CanBeMetAt}
use Rattle.bw_questions.proofs.from_root.lower.greatest_level.Given as goal

abbrev pub invariant-loop-met : goal.invariant-loop-met
invariant-loop-met l = record {
  no_lower : MIN_WEIGHT ≤ l.met;
  apart : l.met < l.over;
  most : l.over ≤ MAX_WEIGHT + 1;
  can : CanBeMetAt l.measure l.instance l.goals l.may l.met;
  none : (more : ℕ) → l.over ≤ more → more ≤ MAX_WEIGHT
      → CanBeMetAt l.measure l.instance l.goals l.may more → ⊥;
}

abbrev pub decreases-loop-met : goal.decreases-loop-met
decreases-loop-met l = l.over - l.met
