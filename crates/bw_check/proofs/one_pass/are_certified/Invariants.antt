-- What stands at each turn of the loop in `are_certified`.
use Rattle.std.proofs.Common.{◌≡◌, ◌+◌, ◌*◌, length}
use Rattle.std.specs.Prelude.{slice_index}
use Rattle.bw_model.specs.Certificate.{certified_of}
use Rattle.bw_check.specs.Counts.{AreGathered, from_row}
use Rattle.bw_check.proofs.Upward.{AreFreeFrom}
use Rattle.bw_check.proofs.one_pass.are_certified.Given as goal

abbrev pub invariant-loop-g : goal.invariant-loop-g
invariant-loop-g l = record {
  summed : AreGathered l.rows (from_row l.g (slice_index l.amounts)) (length l.rows)
      l.amounts_below.items;
  free : AreFreeFrom (record { shape = l.shape; rows = l.rows }) l.amounts
      (certified_of l.certificate) l.g l.bounds_below.items;
  visited : l.visits.steps + l.g ≡ l.fn.visits.steps + 2 * length l.rows;
}
