-- What stands at each turn of the loop in `bounds`.
use Rattle.std.proofs.Common.{◌≡◌, ◌+◌, length}
use Rattle.bw_model.specs.Certificate.{certified_of}
use Rattle.bw_check.proofs.Bounding.{AreMadeFrom, IsSmall}
use Rattle.bw_check.proofs.tables.bounds.Given as goal

abbrev pub invariant-loop-g : goal.invariant-loop-g
invariant-loop-g l = record {
  made : AreMadeFrom l.instance (certified_of l.certificate) l.g l.below.items l.bounds.items;
  small : IsSmall l.instance l.g l.below.items;
  visited : l.visits.steps + l.g ≡ l.fn.visits.steps + length l.instance.rows;
}
