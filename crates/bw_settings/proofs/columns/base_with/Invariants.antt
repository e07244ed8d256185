-- What stands at each turn of the loop in `base_with`: the sum of the numbers before a goal's.
use Rattle.std.proofs.Common.{◌≡◌, ◌+◌, ◌-◌, ◌^◌}
use Rattle.std.specs.Prelude.{min}
use Rattle.bw_model.proofs.CallerLemmas.{sum_below}
use Rattle.bw_settings.specs.Several.{aims_of, part_in}
use Rattle.bw_settings.proofs.columns.base_with.Given as goal

abbrev pub invariant-loop-k : goal.invariant-loop-k
invariant-loop-k l = record {
  so_far : l.sum ≡ min
      (l.base + sum_below l.k (part_in l.instance.rows (aims_of l.goals) l.numbers l.h))
      (2 ^ 64 - 1);
}
