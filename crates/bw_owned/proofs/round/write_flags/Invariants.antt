-- What stands at each turn of the loop in `write_flags`.
use Rattle.std.proofs.Common.{◌≡◌, ◌<◌, ℕ, length, get_or}
use Rattle.bw_owned.specs.Round.{all_flag}
use Rattle.bw_owned.proofs.round.write_flags.Given as goal

abbrev pub invariant-loop-k : goal.invariant-loop-k
invariant-loop-k l = record {
  lengths : length l.all ≡ length l.fn.all;
  written : (j : ℕ) → j < l.k → get_or l.all j 0 ≡ all_flag (get_or l.asked j 0);
}
