-- What stands at each turn of the loop in `beyond`: no goal from here on is above its most.
use Rattle.std.proofs.Common.{ℕ, ◌<◌, ◌≤◌, length, get_or}
use Rattle.bw_questions.proofs.from_root.guaranteed.beyond.Given as goal

abbrev pub invariant-loop-h : goal.invariant-loop-h
invariant-loop-h l = record {
  so_far : (k : ℕ) → l.h ≤ k → k < length l.instance.rows
      → get_or l.goals k 0 ≤ get_or l.most k 0;
}
