-- What stands at each turn of the loop in `amount_with`.
use Rattle.std.proofs.Common.{ℕ, ◌≡◌, ◌*◌, ◌^◌, ◌<◌, ◌≤◌, ◌⊎◌}
use Rattle.std.specs.Prelude.{slice_set}
use Rattle.bw_model.proofs.CallerLemmas.{sum_below}
use Rattle.bw_owned.specs.Pods.{of_part, of_lasting, of_sidecar, while_starting}
use Rattle.bw_owned.proofs.pod.amount_with.Given as goal

abbrev pub invariant-loop-k : goal.invariant-loop-k
invariant-loop-k l = record {
  sidecars_are : l.sidecars ≡ sum_below l.k (of_part of_sidecar l.kinds (slice_set l.amounts l.part l.own));
  lasting_is : l.lasting ≡ sum_below l.k (of_part of_lasting l.kinds (slice_set l.amounts l.part l.own));
  starting : (j : ℕ) → j < l.k → while_starting l.kinds (slice_set l.amounts l.part l.own) j ≤ l.most;
  reached : (l.most ≡ 0)
      ⊎ ((j : ℕ) × (j < l.k) × (l.most ≡ while_starting l.kinds (slice_set l.amounts l.part l.own) j));
  sidecars_fit : l.sidecars ≤ l.k * 2 ^ 64;
  lasting_fits : l.lasting ≤ l.k * 2 ^ 64;
  most_fits : l.most ≤ l.k * 2 ^ 64;
}
