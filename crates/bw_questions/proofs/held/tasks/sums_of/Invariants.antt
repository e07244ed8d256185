-- What stands at each turn of the loop in `sums_of`.
use Rattle.std.proofs.Common.{◌≡◌, ◌*◌, ◌^◌, ◌≤◌, get_or}
use Rattle.bw_model.proofs.CallerLemmas.{sum_below}
use Rattle.bw_questions.specs.Hunger.{could_run, starved_one}
use Rattle.bw_questions.proofs.ByAll.{each_task}
use Rattle.bw_questions.proofs.held.tasks.sums_of.Given as goal

abbrev pub invariant-loop-k : goal.invariant-loop-k
invariant-loop-k l = record {
  total_is : l.total ≡ sum_below l.k (λ k. get_or l.ran k 0);
  most_is : l.most ≡ sum_below l.k (each_task (could_run l.passed) l.ran l.waited);
  starved_is : l.starved ≡ sum_below l.k (each_task (starved_one l.passed) l.ran l.waited);
  total_fits : l.total ≤ l.k * 2 ^ 64;
  most_fits : l.most ≤ l.k * 2 ^ 64;
  starved_fits : l.starved ≤ l.k;
}
