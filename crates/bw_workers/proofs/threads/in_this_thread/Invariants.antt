-- The seats that came back, and those that are still to be worked.
use Rattle.bw_model.specs.Host.{slices_per_processor}
use Rattle.std.proofs.Common.{◌≡◌, ℕ, ◌+◌, ◌*◌, ◌<◌, ◌≤◌, length, get_or, vec_items, vec_len}
use Rattle.std.proofs.Common.{vec_capacity}
use Rattle.std.specs.Vec.Iter.{into_iter_items, into_iter_len}
use Rattle.bw_model.specs.declared.limits.TheConstants.{MAX_GROUPS}
use Rattle.bw_workers.specs.Serving.{IsReady}
use Rattle.bw_workers.specs.Working.{IsLeaves, IsDrainedSeat}
use Rattle.bw_workers.proofs.threads.in_this_thread.Given as goal

abbrev pub invariant-loop-seat : goal.invariant-loop-seat
invariant-loop-seat g l = let worked = vec_len l.done in let rest = l.seat-iterator in record {
  long : worked + into_iter_len rest ≡ l.count;
  few : length l.leaves ≤ MAX_GROUPS;
  leaves : IsLeaves l.instance.rows l.leaves;
  room : worked + into_iter_len rest ≤ vec_capacity l.done;
  ready : (k : ℕ) (d : _) → k < into_iter_len rest → IsReady l.lock.lock_id
      (slices_per_processor l.instance.shape + 2 * length l.leaves)
      (worked + k) (get_or (into_iter_items rest) k d);
  back : (k : ℕ) (d : _) → k < worked → IsDrainedSeat (g.G.Gate.used l.gate)
      l.instance.rows (slices_per_processor l.instance.shape) l.lock.lock_id k
      (get_or (vec_items l.done) k d);
}
