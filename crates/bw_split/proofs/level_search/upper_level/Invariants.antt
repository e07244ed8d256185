-- What stands at each turn of the loop in `upper_level`.
use Rattle.std.proofs.Common.{◌*◌, ◌<◌, ◌≤◌, ℕ, get_or}
use Rattle.bw_split.proofs.level_search.upper_level.Given as goal
use Rattle.bw_model.specs.declared.limits.TheConstants.{MAX_WEIGHT}

abbrev pub invariant-loop-i : goal.invariant-loop-i
invariant-loop-i l = record {
  whole_fits : l.whole ≤ l.i * MAX_WEIGHT;
  positive : 0 < l.least;
  lightest : (k : ℕ) → k < l.i → l.least ≤ get_or l.weights k 0;
  widest : (k : ℕ) → k < l.i → get_or l.most k 0 ≤ l.greatest;
}
