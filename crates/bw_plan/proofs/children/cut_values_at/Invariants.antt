-- What stands at each turn of the loop in `cut_values_at`.
use Rattle.std.proofs.Common.{◌≡◌, length, map, max, take}
use Rattle.std.specs.Prelude.{min, slice_index}
use Rattle.smallvec.specs.SmallVec.{small_vec_len}
use Rattle.bw_plan.proofs.children.cut_values_at.Given as goal

abbrev pub invariant-loop-place : goal.invariant-loop-place
invariant-loop-place l = record {
  taken : l.picked.items
      ≡ map (λ place. min (slice_index l.values place) l.bound) (take l.place-index l.places);
  count : small_vec_len l.picked ≡ l.place-index;
  room : l.picked.capacity ≡ max 8 (length l.places);
}
