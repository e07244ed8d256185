-- What stands at each turn of the loop in `write_carries`.
use Rattle.std.proofs.Common.{◌≡◌, take}
use Rattle.bw_tree.specs.Snapshot.{carried, left_over, rows_of}
use Rattle.bw_tree.specs.Kept.{AreSound, on_host}
use Rattle.bw_tree.proofs.carry.write_carries.Given as goal

abbrev pub invariant-loop-place : goal.invariant-loop-place
invariant-loop-place l = record {
  carries : l.groups.entries ≡ carried l.initial.groups.entries
      (take l.place (left_over (rows_of l.initial.groups.entries l.shape) l.drawn));
  step : l.snapshot.instance ≡ on_host l.groups.entries l.shape;
  sound : AreSound l.groups.entries;
  ids : l.snapshot.ids ≡ l.initial.snapshot.ids;
  quotas : l.snapshot.quotas ≡ l.initial.snapshot.quotas;
}
