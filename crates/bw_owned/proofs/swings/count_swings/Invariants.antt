-- What stands at each turn of the loop in `count_swings`.
use Rattle.std.proofs.Common.{◌≡◌, ◌<◌, ◌≤◌, ℕ, length, get_or}
use Rattle.bw_owned.specs.Swings.{went_back, has_turned, in_a_row}
use Rattle.bw_owned.proofs.swings.count_swings.Given as goal

abbrev pub invariant-loop-k : goal.invariant-loop-k
invariant-loop-k l = record {
  backs_long : length l.backs ≡ length l.fn.backs;
  turns_long : length l.turns ≡ length l.fn.turns;
  backs_are : (j : ℕ) → j < l.k → get_or l.backs j 0 ≡ in_a_row
      (went_back (get_or l.now j 0) (get_or l.last j 0) (get_or l.before j 0))
      (get_or l.fn.backs j 0);
  turns_are : (j : ℕ) → j < l.k → get_or l.turns j 0 ≡ in_a_row
      (has_turned (get_or l.now j 0) (get_or l.last j 0) (get_or l.before j 0))
      (get_or l.fn.turns j 0);
  backs_after : (j : ℕ) → l.k ≤ j → get_or l.backs j 0 ≡ get_or l.fn.backs j 0;
  turns_after : (j : ℕ) → l.k ≤ j → get_or l.turns j 0 ≡ get_or l.fn.turns j 0;
}
