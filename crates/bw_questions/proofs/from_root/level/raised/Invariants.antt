-- What stands at each turn of the loop in `raised`: the weights so far are raised.
use Rattle.std.proofs.Common.{◌≡◌, ℕ, ◌<◌, ◌≤◌, length, get_or}
use Rattle.bw_questions.specs.Needs.{IsHeavyEnough}
use Rattle.bw_questions.proofs.from_root.level.raised.Given as goal

abbrev pub invariant-loop-k : goal.invariant-loop-k
invariant-loop-k l = record {
  one_each : length l.raised.items ≡ length l.weights;
  so_far : (k : ℕ) → k < l.k → (get_or l.raised.items k 0 ≤ get_or l.tops k 0)
      × IsHeavyEnough l.level (get_or l.weights k 0) (get_or l.parts k 0) (get_or l.needs k 0)
      (get_or l.raised.items k 0)
      × ((other : ℕ) → IsHeavyEnough l.level (get_or l.weights k 0) (get_or l.parts k 0)
      (get_or l.needs k 0) other → get_or l.raised.items k 0 ≤ other);
}
