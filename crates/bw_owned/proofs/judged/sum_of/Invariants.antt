-- What stands at each turn of the loop in `sum_of`.
use Rattle.std.proofs.Common.{◌≡◌, ◌*◌, ◌^◌, ◌≤◌, get_or}
use Rattle.bw_model.proofs.CallerLemmas.{sum_below}
use Rattle.bw_owned.proofs.judged.sum_of.Given as goal

abbrev pub invariant-loop-k : goal.invariant-loop-k
invariant-loop-k l = record {
  total_is : l.total ≡ sum_below l.k (λ k. get_or l.values k 0);
  total_fits : l.total ≤ l.k * 2 ^ 64;
}
