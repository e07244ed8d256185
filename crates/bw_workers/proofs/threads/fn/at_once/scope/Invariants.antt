-- What the started threads are to hand back, and the seats that are still to be given out.
use Rattle.bw_model.specs.Host.{slices_per_processor}
use Rattle.std.proofs.Common.{◌≡◌, ℕ, ◌+◌, ◌*◌, ◌<◌, ◌≤◌, length, get_or, vec_items, vec_len}
use Rattle.std.proofs.Common.{vec_capacity}
use Rattle.std.specs.Vec.Iter.{into_iter_items, into_iter_len}
use Rattle.bw_model.specs.declared.limits.TheConstants.{MAX_GROUPS}
use Rattle.bw_workers.specs.Serving.{IsReady}
use Rattle.bw_workers.specs.Working.{IsLeaves}
use Rattle.bw_workers.proofs.threads.fn.at_once.scope.Given as goal

abbrev pub invariant-loop-seat : goal.invariant-loop-seat
invariant-loop-seat g l = let done = vec_len l.children in let rest = l.seat-iterator in record {
  long : done + into_iter_len rest ≡ l.count;
  few : length l.leaves ≤ MAX_GROUPS;
  leaves : IsLeaves l.instance.now.rows l.leaves;
  room : done + into_iter_len rest ≤ vec_capacity l.children;
  ready : (k : ℕ) (d : _) → k < into_iter_len rest →
      IsReady l.lock.now.lock_id (slices_per_processor l.instance.now.shape + 2 * length l.leaves)
      (done + k) (get_or (into_iter_items rest) k d);
  lock : (k : ℕ) (d : _) → k < done
      → (get_or (vec_items l.children) k d).promise.lock.now.lock_id ≡ l.lock.now.lock_id;
  tree : (k : ℕ) (d : _) → k < done
      → (get_or (vec_items l.children) k d).promise.instance.now.rows ≡ l.instance.now.rows;
  slices : (k : ℕ) (d : _) → k < done → slices_per_processor
      (get_or (vec_items l.children) k d).promise.instance.now.shape ≡ slices_per_processor
      l.instance.now.shape;
  gate : (k : ℕ) (d : _) → k < done
      → (get_or (vec_items l.children) k d).promise.gate.now ≡ l.gate.now;
  numbers : (k : ℕ) (d : _) → k < done → (get_or (vec_items l.children) k d).promise.number ≡ k;
}
