-- What stands at each turn of the loop in `can_split`.
use Rattle.std.proofs.Common.{ℕ, ◌<◌, ◌≤◌, get_or}
use Rattle.bw_split.proofs.conditions.can_split.Given as goal
use Rattle.bw_model.specs.declared.limits.TheConstants.{MIN_WEIGHT, MAX_WEIGHT}

abbrev pub invariant-loop-i : goal.invariant-loop-i
invariant-loop-i l = (k : ℕ) → k < l.i
    → (MIN_WEIGHT ≤ get_or l.weights k 0) × (get_or l.weights k 0 ≤ MAX_WEIGHT)
