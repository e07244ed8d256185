-- What stands at each turn of the loop in `narrow_weights_of`.
use Rattle.std.proofs.Common.{◌≡◌, length, map, max, take}
use Rattle.smallvec.specs.SmallVec.{small_vec_len}
use Rattle.bw_model.specs.Groups.{weight_of}
use Rattle.bw_plan.proofs.children.narrow_weights_of.Given as goal

abbrev pub invariant-loop-place : goal.invariant-loop-place
invariant-loop-place l = record {
  taken : l.weights.items ≡ map (weight_of l.rows) (take l.place-index l.places);
  count : small_vec_len l.weights ≡ l.place-index;
  room : l.weights.capacity ≡ max 8 (length l.places);
}
