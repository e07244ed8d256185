-- What stands at each turn of the loop in `first_group`.
use Rattle.std.proofs.Common.{◌≡◌, ℕ, ◌+◌, ◌<◌}
use Rattle.bw_model.specs.Certificate.{certified_of}
use Rattle.bw_check.specs.Verdict.{IsFree}
use Rattle.bw_check.proofs.conditions.first_group.Given as goal

abbrev pub invariant-loop-g : goal.invariant-loop-g
invariant-loop-g l = record {
  free : (k : ℕ) → k < l.g
      → IsFree l.instance l.amounts (certified_of l.certificate) l.tables.bounds.items l.fault k;
  visited : l.visits.steps ≡ l.fn.visits.steps + l.g;
}
