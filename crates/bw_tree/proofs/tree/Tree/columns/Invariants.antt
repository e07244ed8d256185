-- What stands at each turn of the loop in `Tree::columns`.
use Rattle.std.proofs.Common.{◌≡◌, length, take}
use Rattle.std.specs.Prelude.{vec_len, vec_capacity}
use Rattle.std.specs.Map.{keys_of}
use Rattle.bw_tree.specs.Snapshot.{rows_of, base_of}
use Rattle.bw_tree.proofs.tree.Tree.columns.Given as goal

abbrev pub invariant-loop-place : goal.invariant-loop-place
invariant-loop-place l = record {
  ids : l.ids.items ≡ take l.place (keys_of l.self.groups);
  rows : l.rows.items ≡ take l.place (rows_of l.self.groups l.shape);
  quotas : l.quotas.items ≡ take l.place (base_of l.self.groups l.shape);
  ids_len : vec_len l.ids ≡ l.place;
  ids_room : vec_capacity l.ids ≡ length l.self.groups;
  rows_len : vec_len l.rows ≡ l.place;
  rows_room : vec_capacity l.rows ≡ length l.self.groups;
  quotas_len : vec_len l.quotas ≡ l.place;
  quotas_room : vec_capacity l.quotas ≡ length l.self.groups;
}
