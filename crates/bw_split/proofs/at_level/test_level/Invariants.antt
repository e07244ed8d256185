-- What stands at each turn of the loop in `test_level`.
use Rattle.std.proofs.Common.{◌≡◌, ◌*◌, ◌≤◌}
use Rattle.bw_model.proofs.CallerLemmas.{sum_below}
use Rattle.bw_split.proofs.Takes.{each_takes}
use Rattle.bw_split.proofs.at_level.test_level.Given as goal
use Rattle.bw_split.specs.declared.limits.TheConstants.{MAX_PART}

abbrev pub invariant-loop-i : goal.invariant-loop-i
invariant-loop-i l = record {
  total_is : l.total ≡ sum_below l.i (each_takes l.level l.weights l.most);
  total_fits : l.total ≤ l.i * MAX_PART;
}
