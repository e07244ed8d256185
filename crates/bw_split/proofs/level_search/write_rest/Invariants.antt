-- What stands at each turn of the loop in `write_rest`.
use Rattle.std.proofs.Common.{◌≡◌, ◌<◌, ◌≤◌, ℕ, length, get_or}
use Rattle.bw_split.proofs.Takes.{each_takes}
use Rattle.bw_split.proofs.level_search.write_rest.Given as goal

abbrev pub invariant-loop-i : goal.invariant-loop-i
invariant-loop-i l = record {
  lengths : length l.most ≡ length l.fn.most;
  begun : l.from ≤ l.i;
  written : (k : ℕ) → l.from ≤ k → k < l.i
      → get_or l.most k 0 ≡ each_takes l.level l.weights l.fn.most k;
  before : (k : ℕ) → k < l.from → get_or l.most k 0 ≡ get_or l.fn.most k 0;
  after : (k : ℕ) → l.i ≤ k → get_or l.most k 0 ≡ get_or l.fn.most k 0;
}
