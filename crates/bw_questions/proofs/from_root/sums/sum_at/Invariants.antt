-- What stands at each turn of the loop in `sum_at`: the sum so far.
use Rattle.std.proofs.Common.{◌≡◌, take}
use Rattle.std.specs.Prelude.{◌-◌, ◌^◌, min, slice_index, sum_by}
use Rattle.bw_questions.proofs.from_root.sums.sum_at.Given as goal

abbrev pub invariant-loop-k : goal.invariant-loop-k
invariant-loop-k l = record {
  so_far : l.sum ≡ min (sum_by (slice_index l.values) (take l.k l.rows)) (2 ^ 64 - 1);
}
