-- What stands at each turn of the loop in `least_number`.
use Rattle.std.proofs.Common.{ℕ, ◌-◌, ◌<◌, ◌≤◌}
use Rattle.bw_owned.specs.Weights.{IsOwnedWeight}
use Rattle.bw_owned.specs.Least.{first_number, last_number}
use Rattle.bw_owned.proofs.least.least_number.Given as goal

abbrev pub invariant-loop-low : goal.invariant-loop-low
invariant-loop-low l = record {
  first : first_number l.formula ≤ l.low;
  order : l.low ≤ l.high;
  last : l.high ≤ last_number l.formula;
  reaches : (given : ℕ) × IsOwnedWeight l.formula l.high given × (l.weight ≤ given);
  short : (lesser given : ℕ) → first_number l.formula ≤ lesser → lesser < l.low
      → IsOwnedWeight l.formula lesser given → given < l.weight;
}

abbrev pub decreases-loop-low : goal.decreases-loop-low
decreases-loop-low l = l.high - l.low
