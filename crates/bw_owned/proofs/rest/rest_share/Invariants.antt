-- What stands at each turn of the loop in `rest_share`.
use Rattle.std.proofs.Common.{◌≡◌, ◌≤◌}
use Rattle.std.specs.Prelude.{min}
use Rattle.bw_owned.specs.declared.rest.TheConstants.{MOST_TOLD}
use Rattle.bw_owned.specs.Rest.{up_to}
use Rattle.bw_owned.proofs.rest.rest_share.Given as goal

abbrev pub invariant-loop-k : goal.invariant-loop-k
invariant-loop-k l = record {
  whole_is : l.whole ≡ min (up_to l.slices l.own l.others l.k) MOST_TOLD;
  no_less : l.slices ≤ l.whole;
  range : l.whole ≤ MOST_TOLD;
}
