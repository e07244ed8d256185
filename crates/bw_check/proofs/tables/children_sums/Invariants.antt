-- What stands at each turn of the loop in `children_sums`.
use Rattle.std.proofs.Common.{◌≡◌, ◌+◌, slice_index}
use Rattle.bw_check.specs.Counts.{AreGathered}
use Rattle.bw_check.proofs.tables.children_sums.Given as goal

abbrev pub invariant-loop-c : goal.invariant-loop-c
invariant-loop-c l = record {
  summed : AreGathered l.instance.rows (slice_index l.amounts) l.c l.sums.items;
  visited : l.visits.steps ≡ l.fn.visits.steps + l.c;
}
