-- What stands at each turn of the loop in `sum_of`.
use Rattle.std.proofs.Common.{◌≡◌, ◌*◌, ◌≤◌}
use Rattle.std.specs.Prelude.{sum, take}
use Rattle.bw_split.proofs.narrow.sum_of.Given as goal
use Rattle.bw_split.specs.declared.limits.TheConstants.{MAX_PART}

abbrev pub invariant-loop-i : goal.invariant-loop-i
invariant-loop-i l = record {
  total_is : l.total ≡ sum (take l.i l.numbers);
  total_fits : l.total ≤ l.i * MAX_PART;
}
