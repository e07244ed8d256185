-- What stands at each turn of the loop in `take_more`: what parts that hold all of it hold so far.
use Rattle.std.proofs.Common.{◌≡◌, ℕ, ◌+◌, ◌<◌, ◌≤◌, List, length, get_or, take}
use Rattle.std.specs.Prelude.{sum}
use Rattle.bw_split.specs.Levels.{taken}
use Rattle.bw_questions.proofs.from_root.level.take_more.Given as goal

abbrev pub invariant-loop-k : goal.invariant-loop-k
invariant-loop-k l = record {
  so_far : (parts : List ℕ) → length parts ≡ length l.weights
      → ((k : ℕ) → k < length l.weights → get_or l.needs k 0 ≤ get_or parts k 0)
      → ((k : ℕ) → k < length l.weights
      → taken l.level (get_or l.weights k 0) (get_or l.most k 0) ≤ get_or parts k 0)
      → l.amount ≤ l.left + sum (take l.k parts);
}
